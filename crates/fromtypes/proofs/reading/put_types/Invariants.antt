-- The types of each window are written behind those of the windows before it (`Listed`).
use Prim.Native.Nat.{◌-◌}
use lib.ListN.{length}
use Rattle.fromtypes.proofs.Listing.{Listed}
use Rattle.fromtypes.proofs.reading.put_types.Given as goal

abbrev pub invariant-loop-p : goal.invariant-loop-p
invariant-loop-p l = Listed l.initial.types l.bitmap l.types l.k l.p

abbrev pub decreases-loop-p : goal.decreases-loop-p
decreases-loop-p l = length l.bitmap - l.p
