-- What a comparison says of two names is whether the first sorts before the second (`compared_sorting`), and from how a
-- name and the ends of a gap sort follows whether the gap covers it (`covered_by_lem`).
use mathlib.Core.Path.{◌≡◌, refl, sym, ap, ◌∙◌}
use mathlib.Core.List.{List, reverse}
use mathlib.Core.Bool.{Bool, true, false, not, ◌&&◌, ◌||◌, cond, true≢false}
use Prim.Native.Nat.{ℕ}
use native.Mathlib.Omega.{arith}
use borrow.Author.Tests.{le-ltb}
use lib.IntN.{ℤ, pos, negsuc}
use lib.Signed.{lt_z}
use mir.Syntax.{w16}
use mir.Val.{to_z, of_z}
use Rattle.name.specs.Wire.{Reading}
use Rattle.std.specs.Prelude.{Option, Some, Ok, Err}
use Rattle.std.specs.declared.cmp.Ordering.TheVariants.{Less, Equal, Greater}
use Rattle.name.specs.Wire.{reading_of}
use Rattle.name.specs.Answer.{answer, refuse_broken}
use Rattle.name.proofs.Answers.{answer_injective}
use Rattle.std.specs.declared.cmp.Ordering.{Ordering}
use Rattle.order.specs.Order.{folded_labels}
use Rattle.order.specs.Compare.{right_order, right_shared, signed, compare_of}
use Rattle.encloser.specs.Gap.{is_whole, is_earlier, is_before}
use Rattle.covering.specs.Between.{covers_of}
use Rattle.covering.specs.Private.Sorting.{of_whole, sorting_of, goes_round, covered_by}
use Rattle.covering.proofs.Numbers.{number_read, answered_range}

abbrev negative : ℤ → Bool
negative (pos n) = false
negative (negsuc n) = true

negative_below : (z : ℤ) → lt_z z (pos 0) ≡ negative z
negative_below (pos n) = le-ltb n 0 (omega arith)
negative_below (negsuc n) = refl

module _ (s t : List ℕ) where
  abbrev order : Ordering
  order = right_order (reverse (folded_labels s)) (reverse (folded_labels t))

  number_sorting : (z : ℤ) → answer z ≡ compare_of s t → Some (negative z) ≡ sorting_of s t
  number_sorting z e = go (reading_of s) (reading_of t) order (right_shared (reverse (folded_labels s)) (reverse (folded_labels t))) e
    where
      go : (p q : Reading) (o : Ordering) (k : ℕ) → answer z ≡ refuse_broken p 4 (refuse_broken q 11 (answer (signed o k)))
          → Some (negative z) ≡ of_whole p (of_whole q (Some (is_earlier o)))
      go (Err f) q o k e = absurd (true≢false (cc))
      go (Ok _) (Err f) o k e = absurd (true≢false (cc))
      go (Ok _) (Ok _) Less k e = ap (λ (y : ℤ). Some (negative y)) (answer_injective e)
      go (Ok _) (Ok _) Equal k e = ap (λ (y : ℤ). Some (negative y)) (answer_injective e)
      go (Ok _) (Ok _) Greater k e = ap (λ (y : ℤ). Some (negative y)) (answer_injective e)

  -- the test for a number below 0, as the machine has it
  pub compared_sorting : (z : ℤ) → answer z ≡ compare_of s t → (b : Bool) → lt_z (to_z w16 (of_z w16 z)) (pos 0) ≡ b
      → Some b ≡ sorting_of s t
  compared_sorting z e b f =
      ap Some (sym (rw (number_read z (answered_range s t z e)) at f) ∙ negative_below z) ∙ number_sorting z e

-- ---- a gap

pub round_of : (b : Bool) → goes_round (Some b) ≡ not b
round_of true = refl
round_of false = refl

pub between_both : (a b : Bool) (ends : Option Bool) → a && b ≡ true → true ≡ covered_by (Some a) (Some b) ends
between_both true true ends e = refl
between_both true false ends e = absurd (true≢false (cc))
between_both false b ends e = absurd (true≢false (cc))

pub covered_by_lem : (owner next name : List ℕ) {p q : Option Bool} → p ≡ sorting_of owner name → q ≡ sorting_of name next
    → {x y : Option Bool}
    → p ≡ x
    → q ≡ y → covered_by x y (sorting_of owner next) ≡ covers_of owner next name
covered_by_lem owner next name e f a b =
    rw (sym a ∙ e, sym b ∙ f)
    (go (reading_of owner) (reading_of next) (reading_of name) (is_before owner name) (is_before name next) (is_before owner next))
  where
    go : (p q r : Reading) (a b c : Bool)
        → covered_by (of_whole p (of_whole r (Some a))) (of_whole r (of_whole q (Some b))) (of_whole p (of_whole q (Some c)))
        ≡ is_whole p && is_whole q && is_whole r && cond c (a && b) (a || b)
    go (Err f) q r a b c = refl
    go (Ok _) (Ok _) (Err g) a b c = refl
    go (Ok _) (Err f) (Err g) a b c = refl
    go (Ok _) (Err f) (Ok _) true b c = refl
    go (Ok _) (Err f) (Ok _) false b c = refl
    go (Ok _) (Ok _) (Ok _) true true true = refl
    go (Ok _) (Ok _) (Ok _) true true false = refl
    go (Ok _) (Ok _) (Ok _) true false true = refl
    go (Ok _) (Ok _) (Ok _) true false false = refl
    go (Ok _) (Ok _) (Ok _) false true true = refl
    go (Ok _) (Ok _) (Ok _) false true false = refl
    go (Ok _) (Ok _) (Ok _) false false true = refl
    go (Ok _) (Ok _) (Ok _) false false false = refl
