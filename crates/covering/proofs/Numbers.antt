-- The number of a comparison lies between -127 and 127 (`answered_range`), so that the machine reads it back as it is (`number_read`).
use mathlib.Core.Path.{◌≡◌, refl, ◌∙◌}
use mathlib.Core.List.{List}
use mathlib.Core.Bool.{true≢false}
use Prim.Native.Nat.{ℕ, ◌≤◌}
use native.Mathlib.Omega.{arith}
use lib.IntN.{ℤ, pos, negsuc, nat_abs}
use lib.ListN.{length-map}
use mir.Syntax.{w16}
use mir.Val.{SFits, to_z, of_z}
use mir.Facts.{to_z-of_z}
use Rattle.name.specs.Wire.{Reading}
use Rattle.std.specs.Prelude.{Ok, Err}
use Rattle.name.specs.Wire.{reading_of}
use Rattle.name.specs.Labels.{labels_of}
use Rattle.name.specs.Answer.{answer, refusal, fault_values}
use Rattle.name.proofs.Labels.{at_most_127_labels}
use Rattle.space.specs.Fold.{folded}
use Rattle.order.specs.Order.{folded_labels}
use Rattle.order.specs.Compare.{number_of, compare_of}
use Rattle.order.proofs.SharedLabels.{number_range}

pub small_fits : (z : ℤ) → nat_abs z ≤ 255 → SFits w16 z
small_fits (pos n) h = record { sfits = omega arith }
small_fits (negsuc n) h = record { sfits = omega arith }

pub number_read : (z : ℤ) → nat_abs z ≤ 127 → to_z w16 (of_z w16 z) ≡ z
number_read z h = to_z-of_z {w = w16} (small_fits z (omega arith))

pub compare_range : (s t : List ℕ) → reading_of s ≡ Ok tt → reading_of t ≡ Ok tt
    → nat_abs (number_of (folded_labels s) (folded_labels t)) ≤ 127
compare_range s t e d =
    number_range (folded_labels s) (folded_labels t)
    (rw (length-map (labels_of s) folded) (at_most_127_labels s e))
    (rw (length-map (labels_of t) folded) (at_most_127_labels t d))

-- a comparison of two whole names answers, and its number is in the range
pub answered_range : (s t : List ℕ) (z : ℤ) → answer z ≡ compare_of s t → nat_abs z ≤ 127
answered_range s t z e = go (reading_of s) (reading_of t) refl refl
  where
    answer_refused : {n : ℕ} {vs : List ℕ} → answer z ≡ refusal n vs → ⊥
    answer_refused p = true≢false (cc)

    go : (a b : Reading) → reading_of s ≡ a → reading_of t ≡ b → nat_abs z ≤ 127
    go (Ok _) (Ok _) ea eb =
        let f : answer z ≡ answer (number_of (folded_labels s) (folded_labels t)) = e ∙ rw (ea, eb) in
        let g : z ≡ number_of (folded_labels s) (folded_labels t) = cc in
        rw g (compare_range s t ea eb)
    go (Ok _) (Err f) ea eb = let g : answer z ≡ refusal 11 (fault_values f) = e ∙ rw (ea, eb) in absurd (answer_refused g)
    go (Err f) b ea eb = let g : answer z ≡ refusal 4 (fault_values f) = e ∙ rw ea in absurd (answer_refused g)
