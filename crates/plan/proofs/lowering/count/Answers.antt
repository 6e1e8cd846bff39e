-- `count` meets its contract: n labels stand before the place p, and the others up to the cut (`counting_more`).
use native.Mathlib.Omega.{arith}
use Rattle.plan.proofs.Counting.{counting_none, counting_more, counting_within, counting_all}
use Rattle.plan.proofs.lowering.count.Goals as goal

pub loop-p-init : goal.loop-p-init
loop-p-init c = counting_none _ _ c.requires

pub overflow_add-p : goal.overflow_add-p
overflow_add-p c = omega (arith, counting_within c.loop-p.invariant c.loop-p-test.true)

pub bounds-name-p : goal.bounds-name-p
bounds-name-p c = omega (arith, counting_within c.loop-p.invariant c.loop-p-test.true)

pub overflow_add-p-in-loop-p : goal.overflow_add-p-in-loop-p
overflow_add-p-in-loop-p c = omega (arith, counting_within c.loop-p.invariant c.loop-p-test.true)

pub overflow_add-n : goal.overflow_add-n
overflow_add-n c = let l = c.loop-p in omega (arith, l.invariant.few, counting_within l.invariant c.loop-p-test.true)

pub loop-p-preserved : goal.loop-p-preserved
loop-p-preserved c = counting_more c.loop-p.invariant c.loop-p-test.true

pub returns : goal.returns
returns c = counting_all c.loop-p.invariant c.loop-p-test.false
