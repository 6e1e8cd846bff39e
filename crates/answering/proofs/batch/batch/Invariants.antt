-- `batch` meets its contract: what is read and written so far, and the run from there on, make the whole run (`Going`).
use Prim.Native.Nat.{◌-◌}
use lib.ListN.{length}
use Rattle.answering.proofs.Going.{Going}
use Rattle.answering.proofs.batch.batch.Given as goal

abbrev pub invariant-loop-next : goal.invariant-loop-next
invariant-loop-next l = Going l.input l.last l.initial.output l.output l.read l.written

abbrev pub decreases-loop-next : goal.decreases-loop-next
decreases-loop-next l = length l.input - l.read
