-- The types rise up to the index i, and the windows that have ended are counted (`Surveying`).
use Rattle.totypes.proofs.Surveying.{Surveying}
use Rattle.totypes.proofs.survey.Given as goal

abbrev pub invariant-loop-i : goal.invariant-loop-i
invariant-loop-i l = Surveying l.types l.size l.last l.i
