-- The octets at the end of two names that are the same, folded (`Tail`): a block of them that is the same (`Agree`) makes them more.
use mathlib.Core.Path.{◌≡◌, refl, sym, ap, ◌∙◌}
use mathlib.Core.List.{List, []}
use mathlib.Core.Bool.{Bool, true, false, true≢false, false≢true}
use Prim.Native.Nat.{ℕ, ◌+◌, ◌-◌, ◌*◌, ◌/◌, ◌%◌, ◌≤◌, ◌<◌}
use native.Mathlib.Nat.{mul-le-mul_right, div-mul-le_self, mul-mod_left}
use native.Mathlib.Numerals.{add-one}
use native.Mathlib.Omega.{arith}
use lib.ListN.{length, take, drop, get_or, length-drop, length-map, drop_of_length-le, take-append-drop, get_or-map}
use lib.Seq.{take-suc, take-add, drop-drop, get_or-drop}
use Rattle.facts.proofs.Parts.{take_fewer, part_at}
use Rattle.space.specs.Fold.{folded, lower_of}

-- ---- parts of two lists, from p on and from q on

module _ (s t : List ℕ) (p q : ℕ) where
  pub parts_more : (k : ℕ) → p + k < length s → q + k < length t → take k (drop p s) ≡ take k (drop q t)
      → get_or s (p + k) 0 ≡ get_or t (q + k) 0
      → take (k + 1) (drop p s) ≡ take (k + 1) (drop q t)
  parts_more k hs ht same e =
      rw (
        add-one k,
        take-suc (drop p s) k 0 (simp length-drop (omega arith)),
        take-suc (drop q t) k 0 (simp length-drop (omega arith)),
        get_or-drop p s k 0,
        get_or-drop q t k 0,
        same,
        e,
      )

  pub parts_joined : (n : ℕ) → take n (drop p s) ≡ take n (drop q t) → drop (p + n) s ≡ drop (q + n) t → drop p s ≡ drop q t
  parts_joined n front rest =
      sym (take-append-drop n (drop p s))
      ∙ rw (drop-drop n p s, front, rest, ← drop-drop n q t) (take-append-drop n (drop q t))

  pub parts_behind : (n : ℕ) → drop p s ≡ drop q t → drop (p + n) s ≡ drop (q + n) t
  parts_behind n e = sym (drop-drop n p s) ∙ ap (λ (l : List ℕ). drop n l) e ∙ drop-drop n q t

-- ---- octets of two names, folded, from p on and from q on

-- the test says whether the first k are the same
pub record Agree (s : List ℕ) (p : ℕ) (t : List ℕ) (q k : ℕ) (same : Bool) : Type 0 where
  pub found : same ≡ true → take k (drop p (folded s)) ≡ take k (drop q (folded t))
  pub differs : same ≡ false → take k (drop p (folded s)) ≡ take k (drop q (folded t)) → ⊥

pub agree_start : (s : List ℕ) (p : ℕ) (t : List ℕ) (q : ℕ) → Agree s p t q 0 true
agree_start s p t q = record { found = λ test. refl; differs = λ test e. true≢false test }

module _ {s : List ℕ} {p : ℕ} {t : List ℕ} {q : ℕ} (k : ℕ) {x y : ℕ} (ex : x ≡ lower_of (get_or s (p + k) 0))
    (ey : y ≡ lower_of (get_or t (q + k) 0)) where
  -- one octet more that is the same
  pub agree_more : {same : Bool} → Agree s p t q k same → p + k < length s → q + k < length t → x ≡ y → Agree s p t q (k + 1) same
  agree_more g hs ht e =
      record {
        found = λ test.
            parts_more (folded s) (folded t) p q k (simp length-map hs) (simp length-map ht) (g.found test)
            (get_or-map lower_of s (p + k) 0 ∙ sym ex ∙ e ∙ ey ∙ sym (get_or-map lower_of t (q + k) 0));
        differs = λ test all. g.differs test (take_fewer k (k + 1) (drop p (folded s)) (drop q (folded t)) (omega arith) all);
      }

  -- and one that is not
  pub agree_no_more : (x ≡ y → ⊥) → Agree s p t q (k + 1) false
  agree_no_more f =
      record {
        found = λ test. absurd (false≢true test);
        differs = λ test all.
            f (ex ∙ sym (get_or-map lower_of s (p + k) 0) ∙ sym (part_at (folded s) p (k + 1) k 0 (omega arith))
            ∙ ap (λ (l : List ℕ). get_or l k 0) all
            ∙ part_at (folded t) q (k + 1) k 0 (omega arith) ∙ get_or-map lower_of t (q + k) 0 ∙ sym ey);
      }

-- the last c are the same
pub record Tail (s t : List ℕ) (c : ℕ) : Type 0 where
  pub first : c ≤ length s
  pub second : c ≤ length t
  pub same : drop (length s - c) (folded s) ≡ drop (length t - c) (folded t)

all_dropped : (s : List ℕ) → drop (length s - 0) (folded s) ≡ []
all_dropped s = let h : length (folded s) ≤ length s - 0 = simp length-map (omega arith) in drop_of_length-le (folded s) h

pub tail_start : (s t : List ℕ) → Tail s t 0
tail_start s t = record { first = omega arith; second = omega arith; same = all_dropped s ∙ sym (all_dropped t) }

module _ {s t : List ℕ} {c : ℕ} (g : Tail s t c) where
  pub tail_more : (n : ℕ) → n ≤ length s - c → n ≤ length t - c
      → take n (drop (length s - c - n) (folded s)) ≡ take n (drop (length t - c - n) (folded t)) → Tail s t (c + n)
  tail_more n hs ht e =
      let p : length s - (c + n) ≡ length s - c - n = omega arith in
      let q : length t - (c + n) ≡ length t - c - n = omega arith in
      let i : length s - c - n + n ≡ length s - c = omega arith in
      let j : length t - c - n + n ≡ length t - c = omega arith in
      record {
        first = omega (arith, g.first);
        second = omega (arith, g.second);
        same = rw (p, q) (parts_joined (folded s) (folded t) (length s - c - n) (length t - c - n) n e (rw (i, j) g.same));
      }

  -- and so are fewer
  pub tail_fewer : (p q : ℕ) → p ≤ length s → q ≤ length t → length s - p ≡ length t - q → length s - p ≤ c
      → drop p (folded s) ≡ drop q (folded t)
  tail_fewer p q hp hq e h =
      let i : p ≡ length s - c + (p - (length s - c)) = omega (arith, g.first) in
      let j : q ≡ length t - c + (p - (length s - c)) = omega (arith, g.first, g.second) in
      rw (i, j) (parts_behind (folded s) (folded t) (length s - c) (length t - c) (p - (length s - c)) g.same)

-- ---- whole blocks

-- a block more than k has room where there are more than k
pub block_room : (k w n : ℕ) → k < n / w → k * w + w ≤ n
block_room k w n h =
    let most : (k + 1) * w ≤ n / w * w = mul-le-mul_right w (omega arith) in
    omega (arith, div-mul-le_self n w)

-- a block that begins at c, where k are the same, is one more
module _ {s t : List ℕ} (k w : ℕ) {c : ℕ} (g : Tail s t (k * w)) where
  pub tail_block : take w (drop (length s - c - w) (folded s)) ≡ take w (drop (length t - c - w) (folded t)) → c ≡ k * w
      → k * w + w ≤ length s → k * w + w ≤ length t → Tail s t ((k + 1) * w)
  tail_block same e hs ht = let next : k * w + w ≡ (k + 1) * w = omega arith in
      rw next at (tail_more g w (omega arith) (omega arith) (rw e at same))

  -- and where one is not, or has no room, no more than c are the same in blocks
  pub tail_stops : (w ≤ length s - c → w ≤ length t - c
      → take w (drop (length s - c - w) (folded s)) ≡ take w (drop (length t - c - w) (folded t)) → ⊥) → c ≡ k * w
      → (c ≤ length s) × (c ≤ length t) × (drop (length s - c) (folded s) ≡ drop (length t - c) (folded t)) × (c % w ≡ 0)
      × (w ≤ length s - c → w ≤ length t - c
      → take w (drop (length s - c - w) (folded s)) ≡ take w (drop (length t - c - w) (folded t)) → ⊥)
  tail_stops differs e =
      let h : Tail s t c = rw (sym e) at g in
      (h.first, h.second, h.same, rw e (mul-mod_left _ _), differs)

-- ---- the front

-- the first k are the same
pub record Front (s t : List ℕ) (k : ℕ) : Type 0 where
  pub first : k ≤ length s
  pub second : k ≤ length t
  pub same : take k (folded s) ≡ take k (folded t)

pub front_start : (s t : List ℕ) → Front s t 0
front_start s t = record { first = omega arith; second = omega arith; same = refl }

-- and n behind them, which begin at c
module _ {s t : List ℕ} {k c : ℕ} (g : Front s t k) where
  pub front_more : (n : ℕ) → take n (drop c (folded s)) ≡ take n (drop c (folded t)) → c ≡ k → k + n ≤ length s
      → k + n ≤ length t → Front s t (k + n)
  front_more n same e hs ht =
      record {
        first = hs;
        second = ht;
        same = rw (take-add k n (folded s), take-add k n (folded t), g.same, rw e at same);
      }

  -- and where the block of n there differs, or has no room, no more than c are the same in blocks
  pub front_stops : (n : ℕ) → (n ≤ length s - c → n ≤ length t - c
      → take n (drop c (folded s)) ≡ take n (drop c (folded t)) → ⊥) → c ≡ k → k % n ≡ 0
      → (c ≤ length s) × (c ≤ length t) × (take c (folded s) ≡ take c (folded t)) × (c % n ≡ 0)
      × (n ≤ length s - c → n ≤ length t - c → take n (drop c (folded s)) ≡ take n (drop c (folded t)) → ⊥)
  front_stops n differs e whole =
      let h : Front s t c = rw (sym e) at g in
      (h.first, h.second, h.same, rw e whole, differs)
