-- The last window that is left is written before those that are written: zeros, bits, count and number (`Backward`).
use Rattle.totypes.proofs.Backwards.{Backward}
use Rattle.totypes.proofs.put_windows.Given as goal

abbrev pub invariant-loop-i : goal.invariant-loop-i
invariant-loop-i l = Backward l.types l.initial.space l.size l.space l.i l.end

abbrev pub decreases-loop-i : goal.decreases-loop-i
decreases-loop-i l = l.i
