-- The window of the type's number, where there is one, has its bit, and no other window has (`Seeking`).
use Prim.Native.Nat.{◌-◌}
use lib.ListN.{length}
use Rattle.asktypes.proofs.Seeking.{Seeking}
use Rattle.asktypes.proofs.members.present.Given as goal

abbrev pub invariant-loop-p : goal.invariant-loop-p
invariant-loop-p l = Seeking l.bitmap l.t l.p

abbrev pub decreases-loop-p : goal.decreases-loop-p
decreases-loop-p l = length l.bitmap - l.p
