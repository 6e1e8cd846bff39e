-- `advance` meets its contract: the place that is looked for is at p or further on (`Going`), and a label leads on from p.
use Prim.Native.Nat.{◌-◌, ◌≤◌}
use lib.ListN.{length}
use Rattle.enclosing.proofs.Advancing.{Going}
use Rattle.enclosing.proofs.forks.advance.Given as goal

abbrev pub invariant-loop-p : goal.invariant-loop-p
invariant-loop-p l = Going l.s l.at l.most l.l l.p × (1 ≤ l.most)

abbrev pub decreases-loop-p : goal.decreases-loop-p
decreases-loop-p l = length l.s - l.p
