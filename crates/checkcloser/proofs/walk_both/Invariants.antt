-- `walk_both` meets its contract: as in `walk_last`, for the cut and for the mark (`WalkingBoth`).
use Prim.Native.Nat.{◌-◌}
use lib.ListN.{length}
use Rattle.checkcloser.proofs.BothMarks.{WalkingBoth}
use Rattle.checkcloser.proofs.walk_both.Given as goal

abbrev pub invariant-loop-p : goal.invariant-loop-p
invariant-loop-p l = WalkingBoth l.name l.cut l.mark l.p l.at l.end l.over

abbrev pub decreases-loop-p : goal.decreases-loop-p
decreases-loop-p l = length l.name - l.p
