-- Characters written over digits, digits read from characters, and their test, one by one: what the loops have at each index
-- (`spelled_more`, `unspelled_more`, `tested_more`), and what they end with.
use mathlib.Core.Path.{◌≡◌, refl, sym, ap, ◌∙◌}
use mathlib.Core.List.{List, [], ◌∷◌, ◌++◌, map}
use mathlib.Core.Bool.{Bool, true, false, ◌&&◌}
use Prim.Native.Nat.{ℕ, zero, suc, ◌+◌, ◌≤◌, ◌<◌}
use native.Mathlib.Nat.{add-zero, zero-add}
use native.Mathlib.Numerals.{add-one}
use native.Mathlib.Omega.{arith}
use borrow.Author.Tests.{lt-ltb, le-ltb}
use lib.Dec.{ltb}
use lib.ListN.{length, take, drop, get_or, set, length-map}
use lib.Seq.{get_or-drop, get_or-take, take-suc, drop_at, length-take-le, take_all}
use Rattle.space.specs.Fold.{lower_of, folded}
use Rattle.space.specs.Octets.{overlay}
use Rattle.space.proofs.Putting.{Copied, copied_none, copied_more, copied_all, put_overlay}
use Rattle.hash.specs.Digits.{are_digits}
use Rattle.hash.specs.Label.{character, digit_of, label_digits}
use Rattle.hash.specs.Private.Below.{Below}
use Rattle.hash.proofs.Arrays.{put_whole}
use Rattle.hash.proofs.Digits.{below_at}
use Rattle.hash.proofs.Label.{label_digits_length}

map_at : (f : ℕ → ℕ) (s : List ℕ) (i : ℕ) → i < length s → get_or (map f s) i 0 ≡ f (get_or s i 0)
map_at f [] i h = absurd (omega arith)
map_at f (x ∷ s) zero h = refl
map_at f (x ∷ s) (suc i) h = map_at f s i (omega arith)

pub overlay_again : (x y d : List ℕ) → length x ≡ length y → overlay x (overlay y d) ≡ overlay x d
overlay_again x y d e = ap (λ (l : List ℕ). x ++ l) (rw e (drop_at y (drop (length y) d) (length y) refl))

-- ---- the digits at the front of a space become characters

spelled_length : (d : List ℕ) (n : ℕ) → n ≤ length d → length (map character (take n d)) ≡ n
spelled_length d n room = length-map (take n d) character ∙ length-take-le n d room

-- the first n octets as characters, of which i are written
pub record Spelled (d : List ℕ) (n : ℕ) (e : List ℕ) (i : ℕ) : Type 0 where
  pub room : n ≤ length d
  pub copied : Copied d 0 (map character (take n d)) n e i

pub spelled_none : {d : List ℕ} {n : ℕ} → n ≤ length d → Spelled d n d 0
spelled_none {d} {n} room = record { room = room; copied = copied_none d 0 _ (spelled_length d n room) (omega arith) }

module _ {d : List ℕ} {n : ℕ} {e : List ℕ} {i : ℕ} (c : Spelled d n e i) where
  pub spelled_all : n ≤ i → e ≡ overlay (map character (take n d)) d
  spelled_all h = copied_all c.copied h ∙ put_overlay d _ (omega (arith, c.room, spelled_length d n c.room))

  module _ (less : i < n) where
    -- the next octet is not written over yet
    unwritten : get_or e i 0 ≡ get_or (take n d) i 0
    unwritten =
        let back : drop i e ≡ drop i d = rw zero-add at c.copied.partly.written.back in
        rw (get_or-take n d i 0 less, ← add-zero i, ← get_or-drop i e 0 0, back) (get_or-drop i d 0 0)

    pub spelled_digit : Below 32 (take n d) → get_or e i 0 < 32
    spelled_digit h = rw unwritten (below_at 32 (take n d) i h (omega arith))

    pub spelled_more : (x : ℕ) → x ≡ character (get_or e i 0) → Spelled d n (set e i x) (i + 1)
    spelled_more x ex = record {
      room = c.room;
      copied = copied_more c.copied i x less (omega arith)
          (ex ∙ ap character unwritten ∙ sym (map_at character (take n d) i (omega (arith, length-take-le n d c.room))));
    }

-- ---- the characters of a label become digits

module _ (label : List ℕ) {n : ℕ} {d : List ℕ} (size : length label ≡ n) (array : length d ≡ n) where
  pub unspelled_none : Copied d 0 (label_digits label) n d 0
  unspelled_none = copied_none d 0 _ (label_digits_length label ∙ size) (omega arith)

  module _ {e : List ℕ} {i : ℕ} (u : Copied d 0 (label_digits label) n e i) where
    pub unspelled_all : n ≤ i → e ≡ label_digits label
    unspelled_all h = copied_all u h ∙ put_whole d _ (omega (arith, label_digits_length label))

    pub unspelled_more : i < n → (x : ℕ) → x ≡ digit_of (lower_of (get_or label i 0))
        → Copied d 0 (label_digits label) n (set e i x) (i + 1)
    unspelled_more less x ex =
        copied_more u i x less (omega arith)
        (ex ∙ ap digit_of (sym (map_at lower_of label i (omega arith)))
        ∙ sym (map_at digit_of (folded label) i (omega (arith, length-map label lower_of))))

-- ---- the test of the first i of them

tested_last : (base : ℕ) (s : List ℕ) (x : ℕ) → are_digits base (s ++ x ∷ []) ≡ are_digits base s && ltb x base
unfolding are_digits
tested_last base [] x = go (ltb x base)
  where
    go : (t : Bool) → t && true ≡ t
    go true = refl
    go false = refl
tested_last base (d ∷ s) x = go (ltb d base) (tested_last base s x)
  where
    go : (t : Bool) → are_digits base (s ++ x ∷ []) ≡ are_digits base s && ltb x base
        → t && are_digits base (s ++ x ∷ []) ≡ (t && are_digits base s) && ltb x base
    go true e = e
    go false e = refl

module _ (base : ℕ) (s : List ℕ) where
  pub tested_none : true ≡ are_digits base (take 0 s)
  unfolding are_digits
  tested_none = refl

  pub tested_all : {t : Bool} (i : ℕ) → t ≡ are_digits base (take i s) → length s ≤ i → t ≡ are_digits base s
  tested_all i e h = e ∙ rw (take_all i s h)

  module _ {t : Bool} (i : ℕ) (e : t ≡ are_digits base (take i s)) (less : i < length s) where
    tested_next : are_digits base (take (i + 1) s) ≡ t && ltb (get_or s i 0) base
    tested_next = rw (add-one, take-suc s i 0 less, tested_last base (take i s) (get_or s i 0), ← e)

    pub tested_more : get_or s i 0 < base → t ≡ are_digits base (take (i + 1) s)
    tested_more h = sym (tested_next ∙ rw (lt-ltb (get_or s i 0) base h) (go t))
      where
        go : (u : Bool) → u && true ≡ u
        go true = refl
        go false = refl

    pub tested_not : base ≤ get_or s i 0 → false ≡ are_digits base (take (i + 1) s)
    tested_not h = sym (tested_next ∙ rw (le-ltb (get_or s i 0) base h) (go t))
      where
        go : (u : Bool) → u && false ≡ false
        go true = refl
        go false = refl
