-- The check is where the reader is (`Walk`), and each of its tests is the reader's.
use Prim.Native.Nat.{◌-◌}
use lib.ListN.{length}
use Rattle.fromtypes.proofs.Walks.{Walk}
use Rattle.fromtypes.proofs.checking.check.Given as goal

abbrev pub invariant-loop-p : goal.invariant-loop-p
invariant-loop-p l = Walk l.bitmap l.least l.last l.p

abbrev pub decreases-loop-p : goal.decreases-loop-p
decreases-loop-p l = length l.bitmap - l.p
