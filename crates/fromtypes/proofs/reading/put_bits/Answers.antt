-- The highest bit that is left gives the next type, and goes (`Bits`).
use Prim.Native.Nat.{◌≤◌}
use native.Mathlib.Omega.{arith}
use lib.Count.{count_leading_zeros, count_trailing_zeros}
use Rattle.types.proofs.Zeros.{zeros_few}
use Rattle.fromtypes.proofs.Listing.{bits_start, bits_told, bits_some, bits_room, bits_more, bits_all}
use Rattle.fromtypes.proofs.reading.put_bits.Goals as goal

pub loop-left-init : goal.loop-left-init
loop-left-init c = bits_start _ _ _ _ c.ranges.octet.fits c.requires.0

pub overflow_cast-types : goal.overflow_cast-types
overflow_cast-types c =
    let few : let o = c.loop-left.left in (count_leading_zeros 8 o ≤ 7) × (count_trailing_zeros 8 o ≤ 7) = let h = c.loop-left-test.true in
    let low = c.loop-left.invariant.low in
    zeros_few c.loop-left.left (omega arith) (omega arith) in
    omega (arith, c.requires.1, few)

pub overflow_add-types : goal.overflow_add-types
overflow_add-types c =
    let few : let o = c.loop-left.left in (count_leading_zeros 8 o ≤ 7) × (count_trailing_zeros 8 o ≤ 7) = let h = c.loop-left-test.true in
    let low = c.loop-left.invariant.low in
    zeros_few c.loop-left.left (omega arith) (omega arith) in
    omega (arith, c.requires.1, few)

pub overflow_cast-types-in-loop-left : goal.overflow_cast-types-in-loop-left
overflow_cast-types-in-loop-left c =
    let few : let o = c.loop-left.left in (count_leading_zeros 8 o ≤ 7) × (count_trailing_zeros 8 o ≤ 7) = let h = c.loop-left-test.true in
    let low = c.loop-left.invariant.low in
    zeros_few c.loop-left.left (omega arith) (omega arith) in
    omega (arith, c.requires.1, few)

pub bounds-types-k : goal.bounds-types-k
bounds-types-k c = bits_room c.loop-left.invariant c.loop-left-test.true

pub overflow_cast-left : goal.overflow_cast-left
overflow_cast-left c =
    let few : let o = c.loop-left.left in (count_leading_zeros 8 o ≤ 7) × (count_trailing_zeros 8 o ≤ 7) = let h = c.loop-left-test.true in
    let low = c.loop-left.invariant.low in
    zeros_few c.loop-left.left (omega arith) (omega arith) in
    omega (arith, c.requires.1, few)

pub overflow_shr-left : goal.overflow_shr-left
overflow_shr-left c =
    let few : let o = c.loop-left.left in (count_leading_zeros 8 o ≤ 7) × (count_trailing_zeros 8 o ≤ 7) = let h = c.loop-left-test.true in
    let low = c.loop-left.invariant.low in
    zeros_few c.loop-left.left (omega arith) (omega arith) in
    omega (arith, c.requires.1, few)

pub overflow_sub-left : goal.overflow_sub-left
overflow_sub-left c = (bits_told c.loop-left.invariant c.loop-left-test.true).1

pub loop-left-smaller : goal.loop-left-smaller
loop-left-smaller c =
    omega (arith, (bits_told c.loop-left.invariant c.loop-left-test.true).1, bits_some c.loop-left.invariant c.loop-left-test.true)

pub loop-left-preserved : goal.loop-left-preserved
loop-left-preserved c = bits_more c.loop-left.invariant c.loop-left-test.true

pub returns : goal.returns
returns c = bits_all c.loop-left.invariant c.loop-left-test.false
