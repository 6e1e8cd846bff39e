-- Between two labels the reader stands where the loop does, and the sizes of the labels before are noted (`Measuring`).
use Prim.Native.Nat.{◌-◌}
use lib.ListN.{length}
use Rattle.fromkey.proofs.MeasureKey.{Measuring}
use Rattle.fromkey.proofs.measure.Given as goal

abbrev pub invariant-loop-p : goal.invariant-loop-p
invariant-loop-p l = Measuring l.key l.sizes l.left l.p l.k

abbrev pub decreases-loop-p : goal.decreases-loop-p
decreases-loop-p l = length l.key - l.p
