-- A comparison as an exported value: 128 plus a number from -127 to 127, in the machine's signed arithmetic and as a result.
use mathlib.Core.Path.{◌≡◌, refl, ap, ◌∙◌}
use mathlib.Core.List.{List}
use Prim.Native.Nat.{ℕ, suc, ◌≤◌}
use native.Mathlib.Omega.{arith}
use borrow.Author.Tests.{le-ltb}
use lib.IntN.{ℤ, pos, negsuc, nat_abs, ◌+ℤ◌}
use mir.Syntax.{w16}
use mir.Val.{SFits, to_z, of_z}
use mir.Facts.{to_z-of_z}
use Rattle.name.specs.Wire.{Reading}
use Rattle.std.specs.Prelude.{Ok, Err}
use Rattle.name.specs.Wire.{reading_of}
use Rattle.name.specs.Answer.{Result, answer, value, refuse_broken}
use Rattle.name.proofs.Small.{broken_small}
use Rattle.order.specs.Order.{folded_labels}
use Rattle.order.specs.Compare.{number_of, compare_of}
use Rattle.covering.proofs.Numbers.{small_fits, number_read, compare_range}
use Rattle.qorshudan.specs.Packed.{shifted, compared}

-- ---- the machine's sum

shifted_sum : (z : ℤ) → nat_abs z ≤ 127 → z +ℤ pos 128 ≡ pos (shifted z)
shifted_sum (pos n) h = ap pos (omega arith)
shifted_sum (negsuc n) h = rw (le-ltb 128 (suc n) (omega arith)) (ap pos (omega arith))

pub shifted_small : (z : ℤ) → nat_abs z ≤ 127 → shifted z ≤ 255
shifted_small (pos n) h = omega arith
shifted_small (negsuc n) h = omega arith

-- the value tells the number
pub shifted_injective : (z y : ℤ) → nat_abs z ≤ 127 → nat_abs y ≤ 127 → shifted z ≡ shifted y → z ≡ y
shifted_injective (pos n) (pos m) h k e = ap pos (omega arith)
shifted_injective (pos n) (negsuc m) h k e = absurd (omega arith)
shifted_injective (negsuc n) (pos m) h k e = absurd (omega arith)
shifted_injective (negsuc n) (negsuc m) h k e = ap negsuc (omega arith)

module _ (z : ℤ) (h : nat_abs z ≤ 127) where
  pub sum_fits : SFits w16 (to_z w16 (of_z w16 z) +ℤ pos 128)
  sum_fits = rw (number_read z h, shifted_sum z h) (small_fits (pos (shifted z)) (shifted_small z h))

  pub sum_read : to_z w16 (of_z w16 (to_z w16 (of_z w16 z) +ℤ pos 128)) ≡ pos (shifted z)
  sum_read = to_z-of_z {w = w16} sum_fits ∙ rw (number_read z h) (shifted_sum z h)

-- ---- the result

compared_broken : (r : Reading) (n : ℕ) (next : Result ℤ) → compared (refuse_broken r n next) ≡ refuse_broken r n (compared next)
compared_broken (Ok _) n next = refl
compared_broken (Err f) n next = refl

pub compare_small : (s t : List ℕ) → value (compared (compare_of s t)) ≤ 255
compare_small s t =
    let z : ℤ = number_of (folded_labels s) (folded_labels t) in
    rw (compared_broken (reading_of s) 4 (refuse_broken (reading_of t) 11 (answer z)), compared_broken (reading_of t) 11 (answer z))
    (broken_small s 4 255 (refuse_broken (reading_of t) 11 (answer (shifted z))) (omega arith)
    (λ e. broken_small t 11 255 (answer (shifted z)) (omega arith)
    (λ d. shifted_small z (compare_range s t e d))))
