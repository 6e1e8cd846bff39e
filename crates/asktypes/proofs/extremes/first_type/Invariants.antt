-- Octets that are 0 are passed (`Leading`), and the leading zeros of the next one lead to the first type.
use Prim.Native.Nat.{◌-◌}
use lib.ListN.{length}
use Rattle.asktypes.proofs.Extremities.{Leading}
use Rattle.asktypes.proofs.extremes.first_type.Given as goal

abbrev pub invariant-loop-i : goal.invariant-loop-i
invariant-loop-i l = Leading l.bitmap l.first l.i

abbrev pub decreases-loop-i : goal.decreases-loop-i
decreases-loop-i l = length l.bitmap - l.i
