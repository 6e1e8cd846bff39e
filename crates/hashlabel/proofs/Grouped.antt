-- The loops that turn digits into digits of another base: digits are read from the left into a number (`part_more`), written from the right
-- (`left_more`), and a group's digits stand behind those of the groups before it (`grouped_more`).
use mathlib.Core.Path.{◌≡◌, refl, sym, ap, ◌∙◌}
use mathlib.Core.List.{List, [], ◌∷◌, ◌++◌, append_assoc, append-nil}
use Prim.Native.Nat.{ℕ, suc, ◌+◌, ◌-◌, ◌*◌, ◌/◌, ◌%◌, ◌^◌, ◌≤◌, ◌<◌}
use native.Mathlib.Nat.{pow-le-pow_right, lt_of_lt_of_le, le_trans, mul-le-mul_right, add-zero, zero-mul}
use native.Mathlib.Numerals.{add-one}
use native.Mathlib.Omega.{arith}
use lib.ListN.{length, take, drop, get_or, set, length-append, length-drop, length-set, take-append-drop}
use lib.Seq.{take-suc, drop-cons, drop-drop, get_or-drop, length-take-le, take-set-le, drop-set-lt, get_or-set_same, take-add, take_at}
use lib.Seq.{drop-append-add, take_all}
use Rattle.space.specs.Octets.{overlay}
use Rattle.hash.specs.Digits.{value, digits}
use Rattle.hashlabel.specs.Private.Grouping.{Part, Regroups}
use Rattle.hash.proofs.Digits.{below_drop, below_take, value_append, value_more, value_below, digits_length, digits_append}

-- ---- the number of a part

module _ {base count : ℕ} {s : List ℕ} {at : ℕ} (p : Part base count s at) {v k : ℕ} (less : k < count)
    (e : v ≡ value base (take k (drop at s))) where
  pub part_more : v * base + get_or s (at + k) 0 ≡ value base (take (k + 1) (drop at s))
  part_more =
      let one : take (k + 1) (drop at s) ≡ take k (drop at s) ++ get_or s (at + k) 0 ∷ [] =
      rw (add-one, ← get_or-drop at s k 0) (take-suc (drop at s) k 0 (simp length-drop (omega (arith, p.within)))) in
      sym (ap (value base) one ∙ value_more base (take k (drop at s)) (get_or s (at + k) 0) ∙ rw e)

  pub part_small : v * base + get_or s (at + k) 0 < 2 ^ 40
  part_small =
      let size : length (take (k + 1) (drop at s)) ≡ k + 1 =
      length-take-le (k + 1) (drop at s) (simp length-drop (omega (arith, p.within))) in
      let low = rw size at (value_below base (take (k + 1) (drop at s)) (below_take base (k + 1) _ (below_drop base at s p.below))) in
      rw part_more (lt_of_lt_of_le low (le_trans (pow-le-pow_right p.positive (omega arith)) p.small))

pub part_all : {base count : ℕ} {s : List ℕ} {at : ℕ} → Part base count s at → {v k : ℕ} → v ≡ value base (take k (drop at s)) → k ≤ count
    → count ≤ k → v ≡ value base (take count (drop at s))
part_all {count = count} p {k = k} e h l = let z : k ≡ count = omega arith in e ∙ rw z

-- ---- digits from the right

-- with the k digits of what is left of the number written before the index at + k, the list is the one that is asked for
pub record Left (size : ℕ) (asked d : List ℕ) (base at k rest : ℕ) : Type 0 where
  pub room : at + k ≤ length d
  pub kept : length d ≡ size
  pub result : take at d ++ digits base k rest ++ drop (at + k) d ≡ asked

drop_set : (l : List ℕ) (n x : ℕ) → n < length l → drop n (set l n x) ≡ x ∷ drop (suc n) l
drop_set l n x h =
    drop-cons (set l n x) n 0 (rw length-set h) ∙ rw (get_or-set_same l n x 0 h, drop-set-lt (suc n) l n x (omega arith))

module _ {size : ℕ} {asked d : List ℕ} {base at k rest : ℕ} (l : Left size asked d base at k rest) where
  pub left_none : k ≤ 0 → d ≡ asked
  unfolding digits
  left_none h = let z : k ≡ 0 = omega arith in sym (take-append-drop at d) ∙ (rw (z, add-zero, append-nil) at l.result)

  pub left_more : (x : ℕ) → 0 < k → x ≡ rest % base → Left size asked (set d (at + (k - 1)) x) base at (k - 1) (rest / base)
  unfolding digits
  left_more x pos e =
      let n : k ≡ suc (k - 1) = omega arith in
      let i : suc (at + (k - 1)) ≡ at + k = omega arith in
      let split : digits base k rest ≡ digits base (k - 1) (rest / base) ++ x ∷ [] =
      ap (λ (j : ℕ). digits base j rest) n ∙ rw e in
      record {
        room = rw length-set (omega (arith, l.room));
        kept = rw length-set l.kept;
        result = rw (take-set-le at d (at + (k - 1)) x (omega arith), drop_set d (at + (k - 1)) x (omega (arith, l.room)), i)
            (simp append_assoc (simp (split, append_assoc) at l.result));
      }

-- ---- groups

-- g groups are read, and written to the front of the space
pub record Grouped (base n other m : ℕ) (s space d : List ℕ) (g : ℕ) : Type 0 where
  pub most : g ≤ 4
  pub result : d ≡ overlay (digits other (g * m) (value base (take (g * n) s))) space

pub grouped_none : {base n other m : ℕ} {s space : List ℕ} → Grouped base n other m s space space 0
unfolding digits
grouped_none = record { most = omega arith; result = rw zero-mul refl }

module _ {base n other m : ℕ} {s space d : List ℕ} {g : ℕ} (q : Regroups base n other m s space)
    (k : Grouped base n other m s space d g) where
  pub grouped_all : 4 ≤ g → d ≡ overlay (digits other (4 * m) (value base s)) space
  grouped_all h =
      let four : g ≡ 4 = omega (arith, k.most) in
      let all : take (4 * n) s ≡ s = take_all (4 * n) s (omega (arith, q.read)) in
      k.result ∙ rw (four, all)

  pub grouped_size : length d ≡ length space
  grouped_size =
      let most : g * m ≤ length space = omega (arith, q.room, mul-le-mul_right m k.most) in
      rw (k.result, length-append, length-drop, digits_length other (g * m) (value base (take (g * n) s))) (omega arith)

  module _ (less : g < 4) where
    -- the next group
    pub group_part : Part base n s (g * n)
    group_part = record {
      below = q.below;
      positive = q.positive;
      small = q.small;
      within = omega (arith, q.read, mul-le-mul_right n less);
    }

    pub group_room : g * m + m ≤ length d
    group_room = omega (arith, q.room, grouped_size, mul-le-mul_right m less)

    pub grouped_more : (v : ℕ) (e : List ℕ) → v ≡ value base (take n (drop (g * n) s))
        → e ≡ take (g * m) d ++ digits other m v ++ drop (g * m + m) d → Grouped base n other m s space e (g + 1)
    grouped_more v e ev ee = record {
      most = omega arith;
      result = ee ∙ rw (front, back, ← read, ← written, whole) joined;
    }
      where
        read : g * n + n ≡ (g + 1) * n
        read = omega arith

        written : g * m + m ≡ (g + 1) * m
        written = omega arith

        X : List ℕ
        X = digits other (g * m) (value base (take (g * n) s))

        length_X : length X ≡ g * m
        length_X = digits_length other (g * m) (value base (take (g * n) s))

        size : length (take n (drop (g * n) s)) ≡ n
        size = length-take-le n (drop (g * n) s) (simp length-drop (omega (arith, group_part.within)))

        small : v < other ^ m
        small =
            let below = below_take base n _ (below_drop base (g * n) s q.below) in
            rw (ev, ← q.same) (rw size at (value_below base (take n (drop (g * n) s)) below))

        whole : value base (take (g * n + n) s) ≡ value base (take (g * n) s) * other ^ m + v
        whole = rw (take-add (g * n) n s, value_append, size, ev, q.same)

        front : take (g * m) d ≡ X
        front = rw k.result (take_at X _ (g * m) length_X)

        back : drop (g * m + m) d ≡ drop (g * m + m) space
        back =
            ap (λ (l : ℕ). drop (l + m) d) (sym length_X) ∙ ap (drop (length X + m)) k.result
            ∙ drop-append-add X (drop (length X) space) m ∙ drop-drop m (length X) space ∙ ap (λ (l : ℕ). drop (l + m) space) length_X

        joined : X ++ digits other m v ++ drop (g * m + m) space
            ≡ overlay (digits other (g * m + m) (value base (take (g * n) s) * other ^ m + v)) space
        joined =
            rw (digits_append other (g * m) m (value base (take (g * n) s)) v small, length-append, length_X, digits_length other m v)
