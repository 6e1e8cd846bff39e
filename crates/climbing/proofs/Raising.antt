-- The last octet of a label that can be raised, looked for from the right: the greatest octet alone has none after it (`last_raised`).
use mathlib.Core.Path.{◌≡◌, refl, sym, ap, ◌∙◌}
use mathlib.Core.List.{List, [], ◌∷◌, ◌++◌, append_assoc}
use mathlib.Core.Option.{none, some}
use mathlib.Core.Bool.{Bool, true, ◌&&◌}
use Prim.Native.Nat.{ℕ, zero, suc, ◌+◌, ◌-◌, ◌≤◌, ◌<◌}
use native.Mathlib.Nat.{add-zero}
use native.Mathlib.Omega.{arith}
use borrow.Author.Tests.{eqb-true}
use lib.Dec.{eqb}
use lib.ListN.{length, get_or, replicate, replicate-append-replicate}
use Rattle.facts.proofs.Booleans.{both_true}
use Rattle.space.specs.Fold.{lower_of}
use Rattle.space.specs.Private.Put.{folded_part}
use Rattle.space.proofs.FoldedBlocks.{part_split}
use Rattle.order.proofs.Members.{Octet}
use Rattle.zone.specs.Alphabet.{from}
use Rattle.zone.specs.Steps.{greatest, raised}
use Rattle.alphabet.proofs.Extremes.{greatest_last, next_found}
use Rattle.spelling.proofs.LabelOctets.{part_one}
use Rattle.climbing.specs.Private.Raised.{raised_before, Trailing, LastOther}

-- ---- octets g at the end

pub trailing_none : (g : ℕ) (s : List ℕ) (first count : ℕ) → Trailing g s first count count
trailing_none g s first count = let z : count - count ≡ 0 = omega arith in record { within = omega arith; is = rw z }

-- w more of them
pub trailing_more : {g : ℕ} {s : List ℕ} {first count k : ℕ} → Trailing g s first count k → (w p j : ℕ) → w ≤ k → p ≡ first + (k - w)
    → j ≡ k - w → folded_part s p w ≡ replicate w g → Trailing g s first count j
trailing_more {g} {s} {first} {count} {k} t w p j few ep ej octets =
    let sum : count - (k - w) ≡ w + (count - k) = omega (arith, t.within) in
    let place : first + (k - w) + w ≡ first + k = omega arith in
    rw ej
    (record {
      within = omega (arith, t.within);
      is =
          rw sum
          (part_split s (first + (k - w)) w (count - k)
          ∙ rw (place, t.is, ← ep, octets) (replicate-append-replicate w (count - k) g));
    })

module _ {g : ℕ} {s : List ℕ} {first count k : ℕ} (t : Trailing g s first count k) where
  -- the octet o stands before them
  module _ (o : ℕ) (is : o ≡ lower_of (get_or s (first + (k - 1)) 0)) where
    pub trailing_octet : 0 < k → first + count ≤ length s → o ≡ g → Trailing g s first count (k - 1)
    trailing_octet before has same =
        trailing_more t 1 (first + (k - 1)) (k - 1) (omega arith) refl refl
        (part_one s (first + (k - 1)) (omega (arith, t.within)) ∙ rw (← is, same))

    pub other_here : (o ≡ g → ⊥) → LastOther g s first count k
    other_here ne = record { trailing = t; other = λ h e. ne (is ∙ e) }

  pub other_none : k ≤ 0 → LastOther g s first count 0
  other_none h = let z : k ≡ 0 = omega arith in record { trailing = rw z at t; other = λ before e. omega arith }

-- the first k of n octets are all g, where the test holds
pub record AllSo (g : ℕ) (s : List ℕ) (p n : ℕ) (b : Bool) (k : ℕ) : Type 0 where
  pub has : p + n ≤ length s
  pub within : k ≤ n
  pub is : b ≡ true → folded_part s p k ≡ replicate k g

pub all_none : (g : ℕ) (s : List ℕ) (p n : ℕ) → p + n ≤ length s → AllSo g s p n true 0
all_none g s p n h = record { has = h; within = omega arith; is = λ e. refl }

module _ {g : ℕ} {s : List ℕ} {p n : ℕ} {b : Bool} {k : ℕ} (a : AllSo g s p n b k) where
  pub all_more : (o : ℕ) → o ≡ lower_of (get_or s (p + k) 0) → k < n → AllSo g s p n (b && eqb o g) (k + 1)
  all_more o eo h =
      record {
        has = a.has;
        within = omega arith;
        is = λ e.
            let both = both_true b (eqb o g) e in
            let same : lower_of (get_or s (p + k) 0) ≡ g = sym eo ∙ eqb-true o g both.1 in
            part_split s p k 1
            ∙ rw (a.is both.0, part_one s (p + k) (omega (arith, a.has)), same) (replicate-append-replicate k 1 g);
      }

  pub all_so : n ≤ k → b ≡ true → folded_part s p n ≡ replicate n g
  all_so h = let all : k ≡ n = omega (arith, a.within) in rw all at a.is

-- ---- the label raised

module _ (allowed : ℕ → Bool) where
  raised_behind : (l m : List ℕ) → raised allowed m ≡ none → raised allowed (l ++ m) ≡ raised allowed l
  unfolding raised
  raised_behind [] m e = e
  raised_behind (o ∷ l) m e = rw (raised_behind l m e)

  raised_greatest : (n : ℕ) → raised allowed (replicate n (greatest allowed)) ≡ none
  unfolding raised
  raised_greatest zero = refl
  raised_greatest (suc n) = rw (raised_greatest n, greatest_last allowed)

  raised_last : (l : List ℕ) (x y : ℕ) → from allowed (suc x) ≡ some y → raised allowed (l ++ x ∷ []) ≡ some (l ++ y ∷ [])
  unfolding raised
  raised_last [] x y e = rw e
  raised_last (o ∷ l) x y e = rw (raised_last l x y e)

  pub last_raised : (s : List ℕ) (first count k : ℕ) → first + count ≤ length s
      → ((l m : List ℕ) (o : ℕ) → l ++ o ∷ m ≡ folded_part s first count → Octet allowed o)
      → LastOther (greatest allowed) s first count k → raised allowed (folded_part s first count) ≡ raised_before allowed s first k
  last_raised s first count zero has spelled last =
      let z : count - 0 ≡ count = omega arith in
      rw (rw (add-zero first, z) at last.trailing.is) (raised_greatest count)
  last_raised s first count (suc k) has spelled last =
      let o : ℕ = lower_of (get_or s (first + k) 0) in
      let behind : List ℕ = replicate (count - suc k) (greatest allowed) in
      let sum : suc k + (count - suc k) ≡ count = omega (arith, last.trailing.within) in
      let less : suc k - 1 ≡ k = omega arith in
      let one : k + 1 ≡ suc k = omega arith in
      let label : folded_part s first (suc k) ≡ folded_part s first k ++ o ∷ [] =
      ap (folded_part s first) (sym one) ∙ part_split s first k 1
      ∙ rw (part_one s (first + k) (omega (arith, last.trailing.within))) in
      let parts : folded_part s first count ≡ folded_part s first k ++ o ∷ [] ++ behind =
      ap (folded_part s first) (sym sum) ∙ part_split s first (suc k) (count - suc k) ∙ rw (label, last.trailing.is) in
      let octet : Octet allowed o =
      spelled (folded_part s first k) behind o (sym (parts ∙ append_assoc (folded_part s first k) (o ∷ []) behind)) in
      let found = next_found allowed o octet (rw less at (last.other (omega arith))) in
      rw parts
      (raised_behind (folded_part s first k ++ o ∷ []) behind (raised_greatest (count - suc k))
      ∙ raised_last (folded_part s first k) o _ found)
