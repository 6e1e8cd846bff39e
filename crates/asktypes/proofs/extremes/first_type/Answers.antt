-- Octets that are 0 are passed (`Leading`), and the leading zeros of the next one lead to the first type.
use mathlib.Core.Path.{refl}
use Prim.Native.Nat.{◌≤◌}
use native.Mathlib.Omega.{arith}
use lib.Count.{count_leading_zeros, count_trailing_zeros}
use lib.ListN.{get_or}
use Rattle.types.proofs.Zeros.{zeros_few}
use Rattle.asktypes.proofs.Extremities.{leading_start, leading_within, leading_small, leading_zero, leading_found}
use Rattle.asktypes.proofs.extremes.first_type.Goals as goal

pub overflow_mul-first : goal.overflow_mul-first
overflow_mul-first c = omega (arith, c.type_inv.bitmap 0)

pub loop-i-init : goal.loop-i-init
loop-i-init c = leading_start _ c.requires.0 c.requires.1

pub bounds-bitmap-i : goal.bounds-bitmap-i
bounds-bitmap-i c = leading_within c.loop-i.invariant

pub overflow_add-first : goal.overflow_add-first
overflow_add-first c = omega (arith, leading_small c.loop-i.invariant)

pub overflow_add-i : goal.overflow_add-i
overflow_add-i c = omega (arith, leading_within c.loop-i.invariant)

pub loop-i-smaller : goal.loop-i-smaller
loop-i-smaller c = omega (arith, leading_within c.loop-i.invariant)

pub loop-i-preserved : goal.loop-i-preserved
loop-i-preserved c = leading_zero c.loop-i.invariant c.loop-i-test.true

pub bounds-bitmap-i-2 : goal.bounds-bitmap-i-2
bounds-bitmap-i-2 c = leading_within c.loop-i.invariant

pub overflow_cast-result : goal.overflow_cast-result
overflow_cast-result c = let few : let o = get_or c.args.bitmap.now c.loop-i.i 0 in
    (count_leading_zeros 8 o ≤ 7) × (count_trailing_zeros 8 o ≤ 7) = let o = (c.type_inv.bitmap c.loop-i.i).fits in
    let h = c.loop-i-test.false in
    zeros_few _ (omega arith) (omega arith) in
    omega (arith, few)

pub overflow_add-result : goal.overflow_add-result
overflow_add-result c = let few : let o = get_or c.args.bitmap.now c.loop-i.i 0 in
    (count_leading_zeros 8 o ≤ 7) × (count_trailing_zeros 8 o ≤ 7) = let o = (c.type_inv.bitmap c.loop-i.i).fits in
    let h = c.loop-i-test.false in
    zeros_few _ (omega arith) (omega arith) in
    omega (arith, few, leading_small c.loop-i.invariant)

pub overflow_cast-result-2 : goal.overflow_cast-result-2
overflow_cast-result-2 c = let few : let o = get_or c.args.bitmap.now c.loop-i.i 0 in
    (count_leading_zeros 8 o ≤ 7) × (count_trailing_zeros 8 o ≤ 7) = let o = (c.type_inv.bitmap c.loop-i.i).fits in
    let h = c.loop-i-test.false in
    zeros_few _ (omega arith) (omega arith) in
    omega (arith, few, leading_small c.loop-i.invariant)

pub returns : goal.returns
returns c = leading_found c.loop-i.invariant _ c.loop-i-test.false refl
