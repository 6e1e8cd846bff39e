-- The types of each window are written behind those of the windows before it (`Listed`).
use native.Mathlib.Omega.{arith}
use Rattle.fromtypes.proofs.Rests.{Window}
use Rattle.fromtypes.proofs.Listing.{listed_none, listed_window, listed_room, listed_more, listed_all}
use Rattle.fromtypes.proofs.reading.put_types.Goals as goal

pub loop-p-init : goal.loop-p-init
loop-p-init c = listed_none _ _ c.requires.0 c.requires.1

pub overflow_add-n : goal.overflow_add-n
overflow_add-n c =
    let window : Window c.args.bitmap.now c.loop-p.p c.loop-p.invariant.rest = listed_window c.loop-p.invariant c.loop-p-test.true in
    omega (arith, window)

pub bounds-bitmap-p : goal.bounds-bitmap-p
bounds-bitmap-p c =
    let window : Window c.args.bitmap.now c.loop-p.p c.loop-p.invariant.rest = listed_window c.loop-p.invariant c.loop-p-test.true in
    omega (arith, window)

pub overflow_add-p : goal.overflow_add-p
overflow_add-p c =
    let window : Window c.args.bitmap.now c.loop-p.p c.loop-p.invariant.rest = listed_window c.loop-p.invariant c.loop-p-test.true in
    omega (arith, window)

pub bounds-bitmap-p-in-loop-p : goal.bounds-bitmap-p-in-loop-p
bounds-bitmap-p-in-loop-p c =
    let window : Window c.args.bitmap.now c.loop-p.p c.loop-p.invariant.rest = listed_window c.loop-p.invariant c.loop-p-test.true in
    omega (arith, window)

pub overflow_mul-bitmap : goal.overflow_mul-bitmap
overflow_mul-bitmap c =
    let window : Window c.args.bitmap.now c.loop-p.p c.loop-p.invariant.rest = listed_window c.loop-p.invariant c.loop-p-test.true in
    omega (arith, window)

pub put_octets-k-requires-clause-n_in_bounds : goal.put_octets-k-requires-clause-n_in_bounds
put_octets-k-requires-clause-n_in_bounds c =
    let window : Window c.args.bitmap.now c.loop-p.p c.loop-p.invariant.rest = listed_window c.loop-p.invariant c.loop-p-test.true in
    (omega (arith, window), omega (arith, window))

pub put_octets-k-requires-clause-bitmap_in_bounds : goal.put_octets-k-requires-clause-bitmap_in_bounds
put_octets-k-requires-clause-bitmap_in_bounds c =
    let window : Window c.args.bitmap.now c.loop-p.p c.loop-p.invariant.rest = listed_window c.loop-p.invariant c.loop-p-test.true in
    listed_room c.loop-p.invariant c.loop-p-test.true

pub overflow_add-p-in-loop-p : goal.overflow_add-p-in-loop-p
overflow_add-p-in-loop-p c =
    let window : Window c.args.bitmap.now c.loop-p.p c.loop-p.invariant.rest = listed_window c.loop-p.invariant c.loop-p-test.true in
    omega (arith, window)

pub overflow_add-p-in-loop-p-2 : goal.overflow_add-p-in-loop-p-2
overflow_add-p-in-loop-p-2 c =
    let window : Window c.args.bitmap.now c.loop-p.p c.loop-p.invariant.rest = listed_window c.loop-p.invariant c.loop-p-test.true in
    omega (arith, window)

pub loop-p-smaller : goal.loop-p-smaller
loop-p-smaller c =
    let window : Window c.args.bitmap.now c.loop-p.p c.loop-p.invariant.rest = listed_window c.loop-p.invariant c.loop-p-test.true in
    omega (arith, window)

pub loop-p-preserved : goal.loop-p-preserved
loop-p-preserved c = listed_more c.loop-p.invariant c.loop-p-test.true c.put_octets-k.ensures

pub returns : goal.returns
returns c = listed_all c.loop-p.invariant c.loop-p-test.false
