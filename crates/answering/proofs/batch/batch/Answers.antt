-- `batch` meets its contract: what is read and written so far, and the run from there on, make the whole run (`Going`).
use native.Mathlib.Omega.{arith}
use Rattle.answering.proofs.Going.{going_none, going_less, going_more, next_fits, going_ends, end_fits, going_stops}
use Rattle.answering.proofs.batch.batch.Goals as goal

pub loop-next-init : goal.loop-next-init
loop-next-init c = going_none _ _ _

pub advance-step-requires : goal.advance-step-requires
advance-step-requires c = tt

pub overflow_add-written : goal.overflow_add-written
overflow_add-written c = let fits = next_fits c.loop-next.invariant (rw c.in-Answered.is at c.advance-step.ensures) in
    omega (arith, fits)

pub loop-next-smaller : goal.loop-next-smaller
loop-next-smaller c = going_less c.loop-next.invariant (rw c.in-Answered.is at c.advance-step.ensures)

pub loop-next-preserved : goal.loop-next-preserved
loop-next-preserved c = going_more c.loop-next.invariant (rw c.in-Answered.is at c.advance-step.ensures)

pub overflow_add-result : goal.overflow_add-result
overflow_add-result c = let fits = end_fits c.loop-next.invariant (rw c.in-Ended.is at c.advance-step.ensures) in
    omega (arith, fits)

pub returns-in-Ended : goal.returns-in-Ended
returns-in-Ended c = going_ends c.loop-next.invariant (rw c.in-Ended.is at c.advance-step.ensures)

pub returns-in-Stopped : goal.returns-in-Stopped
returns-in-Stopped c = going_stops c.loop-next.invariant (rw c.in-Stopped.is at c.advance-step.ensures)
