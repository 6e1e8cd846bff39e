-- The sum grows by the ones of each window, and with the types that are left it is the number of all (`Summing`).
use native.Mathlib.Omega.{arith}
use Rattle.fromtypes.proofs.Rests.{Window}
use Rattle.fromtypes.proofs.Counts.{summing_start, summing_window, summing_few, summing_more, summing_all}
use Rattle.fromtypes.proofs.counting.count.Goals as goal

pub loop-p-init : goal.loop-p-init
loop-p-init c = summing_start _ (search)

pub overflow_add-n : goal.overflow_add-n
overflow_add-n c =
    let window : Window c.args.bitmap.now c.loop-p.p c.loop-p.invariant.rest = summing_window c.loop-p.invariant c.loop-p-test.true in
    omega (arith, window)

pub bounds-bitmap-p : goal.bounds-bitmap-p
bounds-bitmap-p c =
    let window : Window c.args.bitmap.now c.loop-p.p c.loop-p.invariant.rest = summing_window c.loop-p.invariant c.loop-p-test.true in
    omega (arith, window)

pub overflow_add-p : goal.overflow_add-p
overflow_add-p c =
    let window : Window c.args.bitmap.now c.loop-p.p c.loop-p.invariant.rest = summing_window c.loop-p.invariant c.loop-p-test.true in
    omega (arith, window)

pub count_in-sum-requires : goal.count_in-sum-requires
count_in-sum-requires c =
    let window : Window c.args.bitmap.now c.loop-p.p c.loop-p.invariant.rest = summing_window c.loop-p.invariant c.loop-p-test.true in
    (omega (arith, window), omega (arith, window))

pub overflow_add-sum : goal.overflow_add-sum
overflow_add-sum c = omega (arith, summing_few c.loop-p.invariant c.loop-p-test.true c.count_in-sum.ensures)

pub overflow_add-p-in-loop-p : goal.overflow_add-p-in-loop-p
overflow_add-p-in-loop-p c =
    let window : Window c.args.bitmap.now c.loop-p.p c.loop-p.invariant.rest = summing_window c.loop-p.invariant c.loop-p-test.true in
    omega (arith, window)

pub overflow_add-p-in-loop-p-2 : goal.overflow_add-p-in-loop-p-2
overflow_add-p-in-loop-p-2 c =
    let window : Window c.args.bitmap.now c.loop-p.p c.loop-p.invariant.rest = summing_window c.loop-p.invariant c.loop-p-test.true in
    omega (arith, window)

pub loop-p-smaller : goal.loop-p-smaller
loop-p-smaller c =
    let window : Window c.args.bitmap.now c.loop-p.p c.loop-p.invariant.rest = summing_window c.loop-p.invariant c.loop-p-test.true in
    omega (arith, window)

pub loop-p-preserved : goal.loop-p-preserved
loop-p-preserved c = summing_more c.loop-p.invariant c.loop-p-test.true c.count_in-sum.ensures

pub returns : goal.returns
returns c = summing_all c.loop-p.invariant c.loop-p-test.false
