-- What stands from the end on, with the labels that are left put before it, is the name (`Filling`).
use Rattle.fromkey.proofs.ReadLabels.{put_inside}
use mathlib.Core.Path.{refl}
use lib.ListN.{length-set}
use native.Mathlib.Omega.{arith}
use Rattle.fromkey.proofs.PutNames.{filling_size, filling_start, filling_all}
use Rattle.fromkey.proofs.PutNames.{filling_label, filling_fits, filling_index, filling_next}
use Rattle.fromkey.proofs.put_name.Goals as goal

pub overflow_sub-end : goal.overflow_sub-end
overflow_sub-end c = filling_size c.requires.layout

pub bounds-d-end : goal.bounds-d-end
bounds-d-end c = omega (arith, filling_size c.requires.layout)

pub loop-p-init : goal.loop-p-init
loop-p-init c = let a = c.args in filling_start c.requires.layout a.d.now c.requires.n_in_bounds

pub bounds-sizes-k : goal.bounds-sizes-k
bounds-sizes-k c = filling_index c.loop-p.invariant c.loop-p-test.true

pub overflow_cast-size : goal.overflow_cast-size
overflow_cast-size c = omega (arith, filling_fits c.loop-p.invariant c.loop-p-test.true, simp length-set at c.loop-p.invariant.written.room)

pub overflow_sub-at : goal.overflow_sub-at
overflow_sub-at c = omega (arith, filling_fits c.loop-p.invariant c.loop-p-test.true)

pub put_label-p-requires-clause-n_in_bounds : goal.put_label-p-requires-clause-n_in_bounds
put_label-p-requires-clause-n_in_bounds c = omega (arith, filling_fits c.loop-p.invariant c.loop-p-test.true)

pub put_label-p-requires-clause-label_at : goal.put_label-p-requires-clause-label_at
put_label-p-requires-clause-label_at c = filling_label c.loop-p.invariant c.loop-p-test.true

pub overflow_add-p : goal.overflow_add-p
overflow_add-p c = omega (arith, put_inside c.put_label-p.ensures)

pub overflow_sub-end-in-loop-p : goal.overflow_sub-end-in-loop-p
overflow_sub-end-in-loop-p c = omega (arith, filling_fits c.loop-p.invariant c.loop-p-test.true)

pub bounds-d-end-in-loop-p : goal.bounds-d-end-in-loop-p
bounds-d-end-in-loop-p c = omega (arith, filling_fits c.loop-p.invariant c.loop-p-test.true, c.put_label-p.auto.d)

pub overflow_add-k : goal.overflow_add-k
overflow_add-k c = omega (arith, filling_index c.loop-p.invariant c.loop-p-test.true)

pub loop-p-smaller : goal.loop-p-smaller
loop-p-smaller c = omega (arith, filling_fits c.loop-p.invariant c.loop-p-test.true)

pub loop-p-preserved : goal.loop-p-preserved
loop-p-preserved c = filling_next c.loop-p.invariant c.loop-p-test.true c.put_label-p.ensures refl

pub returns : goal.returns
returns c = filling_all c.requires.layout c.args.d.now c.requires.n_in_bounds c.loop-p.invariant c.loop-p-test.false
