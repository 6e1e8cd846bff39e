-- `walk` meets its contract: reading has come to the place p, where the octet o stands (`Stands`), and the places noted are those of the
-- last three labels that end at or before the cut (`Walking`).
use Prim.Native.Nat.{◌-◌}
use lib.ListN.{length}
use Rattle.checks.proofs.Marks.{Walking}
use Rattle.checks.proofs.Standing.{Stands}
use Rattle.checks.proofs.walking.walk.Given as goal

abbrev pub invariant-loop-o : goal.invariant-loop-o
invariant-loop-o l = Walking l.name l.cut l.p l.one l.two l.three l.end × Stands l.name l.p l.o

abbrev pub decreases-loop-o : goal.decreases-loop-o
decreases-loop-o l = length l.name - l.p
