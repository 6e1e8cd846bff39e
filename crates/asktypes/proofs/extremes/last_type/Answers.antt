-- The trailing zeros of the last octet lead to the last type, from the type behind its lowest bit on.
use mathlib.Core.Path.{refl}
use native.Mathlib.Omega.{arith}
use Prim.Native.Nat.{◌-◌, ◌≤◌}
use lib.Count.{count_leading_zeros, count_trailing_zeros}
use Rattle.types.proofs.Zeros.{zeros_few}
use lib.ListN.{length, get_or}
use Rattle.asktypes.proofs.Extremities.{last_found}
use Rattle.asktypes.proofs.extremes.last_type.Goals as goal

pub overflow_mul-end : goal.overflow_mul-end
overflow_mul-end c = omega (arith, c.type_inv.bitmap c.args.last)

pub overflow_add-end : goal.overflow_add-end
overflow_add-end c = omega (arith, c.type_inv.bitmap c.args.last)

pub overflow_cast-result : goal.overflow_cast-result
overflow_cast-result c = let few : let o = get_or c.args.bitmap.now (length c.args.bitmap.now - 1) 0 in
    (count_leading_zeros 8 o ≤ 7) × (count_trailing_zeros 8 o ≤ 7) = let o = (c.type_inv.bitmap (length c.args.bitmap.now - 1)).fits in
    zeros_few (get_or c.args.bitmap.now (length c.args.bitmap.now - 1) 0) c.requires.high (omega arith) in
    omega (arith, few)

pub overflow_sub-result-3 : goal.overflow_sub-result-3
overflow_sub-result-3 c = let few : let o = get_or c.args.bitmap.now (length c.args.bitmap.now - 1) 0 in
    (count_leading_zeros 8 o ≤ 7) × (count_trailing_zeros 8 o ≤ 7) = let o = (c.type_inv.bitmap (length c.args.bitmap.now - 1)).fits in
    zeros_few (get_or c.args.bitmap.now (length c.args.bitmap.now - 1) 0) c.requires.high (omega arith) in
    omega (arith, few, c.requires)

pub overflow_cast-result-2 : goal.overflow_cast-result-2
overflow_cast-result-2 c = omega (arith, c.type_inv.bitmap c.args.last, c.requires)

pub returns : goal.returns
returns c = last_found _ _ _ c.requires (λ i. (c.type_inv.bitmap i).fits) refl
