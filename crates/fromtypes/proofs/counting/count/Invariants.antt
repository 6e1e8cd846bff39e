-- The sum grows by the ones of each window, and with the types that are left it is the number of all (`Summing`).
use Prim.Native.Nat.{◌-◌}
use lib.ListN.{length}
use Rattle.fromtypes.proofs.Counts.{Summing}
use Rattle.fromtypes.proofs.counting.count.Given as goal

abbrev pub invariant-loop-p : goal.invariant-loop-p
invariant-loop-p l = Summing l.bitmap l.sum l.p

abbrev pub decreases-loop-p : goal.decreases-loop-p
decreases-loop-p l = length l.bitmap - l.p
