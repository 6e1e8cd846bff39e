-- `count` meets its contract: n labels stand before the place p, and the others up to the cut (`counting_more`).
use Prim.Native.Nat.{◌-◌}
use Rattle.plan.proofs.Counting.{Counting}
use Rattle.plan.proofs.lowering.count.Given as goal

abbrev pub invariant-loop-p : goal.invariant-loop-p
invariant-loop-p l = Counting l.name l.cut l.n l.p

abbrev pub decreases-loop-p : goal.decreases-loop-p
decreases-loop-p l = l.cut - l.p
