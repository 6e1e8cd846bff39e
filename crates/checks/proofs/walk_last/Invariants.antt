-- `walk_last` meets its contract: as in `walk`, and the second and the third place are some that it does not note.
use Prim.Native.Nat.{◌-◌}
use lib.ListN.{length}
use Rattle.checks.proofs.Marks.{WalkingLast}
use Rattle.checks.proofs.Standing.{Stands}
use Rattle.checks.proofs.walk_last.Given as goal

abbrev pub invariant-loop-o : goal.invariant-loop-o
invariant-loop-o l = WalkingLast l.name l.cut l.p l.at l.end × Stands l.name l.p l.o

abbrev pub decreases-loop-o : goal.decreases-loop-o
decreases-loop-o l = length l.name - l.p
