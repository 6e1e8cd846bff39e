-- Octets that are found the same are equal, and equal ones are found the same. Octets are compared in blocks: a block may begin among those
-- that are compared already, so that the last one ends where they end (`comparing_block`); an octet is a block too.
use mathlib.Core.Path.{◌≡◌, refl, sym, ap, ◌∙◌}
use mathlib.Core.List.{List, [], ◌∷◌}
use mathlib.Core.Bool.{Bool, true, false, ◌&&◌, false≢true}
use Prim.Native.Nat.{ℕ, ◌+◌, ◌-◌, ◌≤◌, ◌<◌}
use native.Mathlib.Omega.{arith}
use borrow.Author.Tests.{eqb-true, eq-eqb}
use lib.Dec.{eqb}
use lib.ListN.{length, take, drop, get_or, length-map, length-take, length-drop}
use lib.Seq.{drop-cons, take_at, drop_at, take-length}
use Rattle.facts.proofs.Booleans.{both_true}
use Rattle.space.specs.Fold.{lower_of, folded}
use Rattle.space.specs.Same.{same_octets}
use Rattle.space.specs.Private.Put.{folded_part}
use Rattle.space.specs.Private.SameParts.{same_parts}
use Rattle.space.proofs.Putting.{part_length}
use Rattle.space.proofs.FoldedBlocks.{part_split}

pub same_octets_equal : (s t : List ℕ) → same_octets s t ≡ true → s ≡ t
same_octets_equal [] [] e = refl
same_octets_equal [] (y ∷ t) e = absurd (false≢true e)
same_octets_equal (x ∷ s) [] e = absurd (false≢true e)
same_octets_equal (x ∷ s) (y ∷ t) e =
    let p = both_true (eqb x y) (same_octets s t) e in
    rw (eqb-true x y p.0, same_octets_equal s t p.1)

pub same_octets_refl : (s : List ℕ) → same_octets s s ≡ true
same_octets_refl [] = refl
same_octets_refl (x ∷ s) = rw (eq-eqb x x refl, same_octets_refl s)

-- two tests that hold together are one
pub alike : (a b : Bool) → (a ≡ true → b ≡ true) → (b ≡ true → a ≡ true) → a ≡ b
alike true b f g = sym (f refl)
alike false true f g = g refl
alike false false f g = refl

-- ---- parts

part_front : (s : List ℕ) (p j i : ℕ) → j ≤ i → p + i ≤ length s → folded_part s p j ≡ take j (folded_part s p i)
part_front s p j i h has =
    let all : j + (i - j) ≡ i = omega arith in
    sym (take_at (folded_part s p j) (folded_part s (p + j) (i - j)) j (part_length s p j (omega arith)))
    ∙ ap (take j) (sym (part_split s p j (i - j)) ∙ ap (folded_part s p) all)

part_back : (s : List ℕ) (p j w : ℕ) → p + (j + w) ≤ length s → folded_part s (p + j) w ≡ drop j (folded_part s p (j + w))
part_back s p j w has =
    sym (drop_at (folded_part s p j) (folded_part s (p + j) w) j (part_length s p j (omega arith))) ∙ ap (drop j) (sym (part_split s p j w))

module _ (s : List ℕ) (p : ℕ) (t : List ℕ) (q : ℕ) where
  pub parts_equal : (n : ℕ) → same_parts s p t q n ≡ true → folded_part s p n ≡ folded_part t q n
  unfolding same_parts
  parts_equal n e = same_octets_equal (folded_part s p n) (folded_part t q n) e

  pub equal_parts : (n : ℕ) → folded_part s p n ≡ folded_part t q n → same_parts s p t q n ≡ true
  unfolding same_parts
  equal_parts n e = rw e (same_octets_refl (folded_part t q n))

-- parts are the same where their first i octets are and w more from the j-th on
module _ (s : List ℕ) (p : ℕ) (t : List ℕ) (q i j w : ℕ) (h : (j ≤ i) × (i ≤ j + w) × (p + (j + w) ≤ length s) × (q + (j + w) ≤ length t))
  where
    whole : same_parts s p t q i && same_parts s (p + j) t (q + j) w ≡ true → same_parts s p t q (j + w) ≡ true
    whole e =
        let b = both_true (same_parts s p t q i) (same_parts s (p + j) t (q + j) w) e in
        let fronts : folded_part s p j ≡ folded_part t q j =
        part_front s p j i (omega arith) (omega arith) ∙ ap (take j) (parts_equal s p t q i b.0)
        ∙ sym (part_front t q j i (omega arith) (omega arith)) in
        equal_parts s p t q (j + w) (rw (part_split s p j w, part_split t q j w, fronts, parts_equal s (p + j) t (q + j) w b.1))

    pieces : same_parts s p t q (j + w) ≡ true → same_parts s p t q i && same_parts s (p + j) t (q + j) w ≡ true
    pieces e =
        let is = parts_equal s p t q (j + w) e in
        rw (
          equal_parts s p t q i
              (part_front s p i (j + w) (omega arith) (omega arith) ∙ ap (take i) is
              ∙ sym (part_front t q i (j + w) (omega arith) (omega arith))),
          equal_parts s (p + j) t (q + j) w (part_back s p j w (omega arith) ∙ ap (drop j) is ∙ sym (part_back t q j w (omega arith))),
        )

    parts_joined : same_parts s p t q i && same_parts s (p + j) t (q + j) w ≡ same_parts s p t q (j + w)
    parts_joined = alike (same_parts s p t q i && same_parts s (p + j) t (q + j) w) (same_parts s p t q (j + w)) whole pieces

-- ---- blocks

and_on : (a : Bool) → a && true ≡ a
and_on true = refl
and_on false = refl

pub octet_same : (s : List ℕ) (p : ℕ) (t : List ℕ) (q : ℕ) → (p < length s) × (q < length t)
    → eqb (lower_of (get_or s p 0)) (lower_of (get_or t q 0)) ≡ same_parts s p t q 1
unfolding same_parts
octet_same s p t q h =
    let ps : p < length s = omega arith in
    let qt : q < length t = omega arith in
    rw (drop-cons s p 0 ps, drop-cons t q 0 qt) (sym (and_on (eqb (lower_of (get_or s p 0)) (lower_of (get_or t q 0)))))

-- whether the first i of n octets are the same
pub record Comparing (s : List ℕ) (p : ℕ) (t : List ℕ) (q n : ℕ) (same : Bool) (i : ℕ) : Type 0 where
  pub first : p + n ≤ length s
  pub second : q + n ≤ length t
  pub within : i ≤ n
  pub is : same ≡ same_parts s p t q i

module _ {s : List ℕ} {p : ℕ} {t : List ℕ} {q n : ℕ} {a : Bool} {i : ℕ} (c : Comparing s p t q n a i) where
  -- w octets from the j-th on are compared too
  pub comparing_block : (j r w : ℕ) {b : Bool} → b ≡ same_parts s (p + j) t r w → {m : ℕ}
      → (r ≡ q + j) × (j ≤ i) × (i ≤ j + w) × (j + w ≡ m) × (m ≤ n) → Comparing s p t q n (a && b) m
  comparing_block j r w {b} block {m} h =
      let sum : j + w ≡ m = omega arith in
      let place : r ≡ q + j = omega arith in
      record {
        first = c.first;
        second = c.second;
        within = omega arith;
        is = rw (c.is, block, place, ← sum) (parts_joined s p t q i j w (omega arith));
      }

  -- the next octets are compared too
  pub comparing_octet : {b : Bool} → b ≡ eqb (lower_of (get_or s (p + i) 0)) (lower_of (get_or t (q + i) 0)) → i < n
      → Comparing s p t q n (a && b) (i + 1)
  comparing_octet e h = comparing_block i (q + i) 1 (e ∙ octet_same s (p + i) t (q + i) (omega arith)) (omega arith)

  pub comparing_all : n ≤ i → a ≡ same_parts s p t q n
  comparing_all h = let all : i ≡ n = omega arith in rw all at c.is

module _ (s : List ℕ) (p : ℕ) (t : List ℕ) (q n : ℕ) where
  pub comparing_none : {i : ℕ} → (i ≡ 0) × (p + n ≤ length s) × (q + n ≤ length t) → Comparing s p t q n true i
  comparing_none {i} h =
      let none : i ≡ 0 = omega arith in
      record { first = omega arith; second = omega arith; within = omega arith; is = rw none (sym (equal_parts s p t q 0 refl)) }

  pub comparing_first : (w : ℕ) {a : Bool} → a ≡ same_parts s p t q w → (w ≤ n) × (p + n ≤ length s) × (q + n ≤ length t)
      → Comparing s p t q n a w
  comparing_first w first h = record { first = omega arith; second = omega arith; within = omega arith; is = first }

  -- two blocks of w octets, the first ones and the last ones
  pub same_ends : (w r : ℕ) {a b : Bool} → a ≡ same_parts s p t q w → b ≡ same_parts s (p + (n - w)) t r w
      → (r ≡ q + (n - w)) × (w ≤ n) × (n ≤ w + w) × (p + n ≤ length s) × (q + n ≤ length t) → a && b ≡ same_parts s p t q n
  same_ends w r first last h = (comparing_block (comparing_first w first (omega arith)) (n - w) r w last {m = n} (omega arith)).is

-- ---- whether octets begin with others

module _ (s : List ℕ) (at : ℕ) (t : List ℕ) where
  pub same_begins : {b : Bool} → b ≡ same_parts s at t 0 (length t) → b ≡ same_octets (folded_part s at (length t)) (folded t)
  unfolding same_parts
  same_begins e = rw (take-length t) at e

  -- there are fewer
  pub same_short : length s < at + length t → 0 < length t → false ≡ same_octets (folded_part s at (length t)) (folded t)
  same_short h some =
      let fewer : length (folded_part s at (length t)) < length (folded t) = simp (length-map, length-take, length-drop) (omega arith) in
      alike false (same_octets (folded_part s at (length t)) (folded t)) (λ e. absurd (false≢true e))
      (λ e. absurd (omega (arith, ap length (same_octets_equal (folded_part s at (length t)) (folded t) e))))

-- nothing is the beginning of any octets
pub same_empty : (s : List ℕ) (at : ℕ) (t : List ℕ) → length t ≡ 0 → true ≡ same_octets (folded_part s at (length t)) (folded t)
same_empty s at [] e = refl
same_empty s at (x ∷ t) e = absurd (omega arith)
