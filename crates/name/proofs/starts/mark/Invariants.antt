-- `mark` meets its contract: reading has come to the place p (`At`), and the places of the n labels before it are noted (`Noting`).
use Prim.Native.Nat.{◌≤◌, ◌-◌}
use lib.ListN.{length}
use Rattle.name.proofs.ReadSteps.{At}
use Rattle.name.proofs.MarkSteps.{Noting}
use Rattle.name.proofs.starts.mark.Given as goal

abbrev pub invariant-loop-p : goal.invariant-loop-p
invariant-loop-p l = (l.p ≤ 254) × At l.octets l.p × Noting l.octets l.initial.places l.places l.n l.p

abbrev pub decreases-loop-p : goal.decreases-loop-p
decreases-loop-p l = length l.octets - l.p
