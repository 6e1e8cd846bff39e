-- `scan` meets its contract: reading has come to the place p (`At`), and of a whole name the place that is noted is near (`Passing`).
use mathlib.Core.Path.{◌≡◌}
use Prim.Native.Nat.{◌≤◌, ◌-◌}
use lib.ListN.{length}
use Rattle.std.specs.Prelude.{Ok}
use Rattle.name.specs.Wire.{reading_of}
use Rattle.name.proofs.ReadSteps.{At}
use Rattle.enclosing.proofs.Advancing.{Passing}
use Rattle.enclosing.proofs.forks.scan.Given as goal

abbrev pub invariant-loop-p : goal.invariant-loop-p
invariant-loop-p l = (l.p ≤ 254) × At l.s l.p × (reading_of l.s ≡ Ok tt → Passing l.s l.most l.label l.at l.p)

abbrev pub decreases-loop-p : goal.decreases-loop-p
decreases-loop-p l = length l.s - l.p
