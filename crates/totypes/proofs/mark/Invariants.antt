-- The types are marked from the last one back, as long as they are of the window (`Marked`).
use Rattle.totypes.proofs.Markings.{Marked}
use Rattle.totypes.proofs.mark.Given as goal

abbrev pub invariant-loop-i : goal.invariant-loop-i
invariant-loop-i l = Marked l.types l.end l.w l.initial.space l.start l.space l.i
