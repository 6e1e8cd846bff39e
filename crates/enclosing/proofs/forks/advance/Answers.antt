-- `advance` meets its contract: the place that is looked for is at p or further on (`Going`), and a label leads on from p.
use native.Mathlib.Omega.{arith}
use Rattle.enclosing.proofs.Advancing.{going_start, going_inside, going_within, going_next, going_end}
use Rattle.enclosing.proofs.forks.advance.Goals as goal

pub loop-p-init : goal.loop-p-init
loop-p-init c = (going_start c.requires.0 _, c.requires.1)

pub overflow_sub-s : goal.overflow_sub-s
overflow_sub-s c = omega (arith, going_inside c.loop-p.invariant.0)

pub overflow_add-p-in-loop-p : goal.overflow_add-p-in-loop-p
overflow_add-p-in-loop-p c = let i = c.loop-p.invariant in omega (arith, going_within i.0 i.1 c.loop-p-test.true)

pub loop-p-preserved : goal.loop-p-preserved
loop-p-preserved c = let i = c.loop-p.invariant in (going_next i.0 i.1 c.loop-p-test.true, i.1)

pub returns : goal.returns
returns c = going_end c.loop-p.invariant.0 c.loop-p-test.false
