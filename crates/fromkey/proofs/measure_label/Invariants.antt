-- Along the label every octet that is passed is one that the reader takes (`Along`); at each stop the reader stops there too.
use Prim.Native.Nat.{◌-◌}
use lib.ListN.{length}
use Rattle.fromkey.proofs.MeasureLabel.{Along}
use Rattle.fromkey.proofs.measure_label.Given as goal

abbrev pub invariant-loop-p : goal.invariant-loop-p
invariant-loop-p l = Along l.key l.from l.left l.size l.p

abbrev pub decreases-loop-p : goal.decreases-loop-p
decreases-loop-p l = length l.key - l.p
