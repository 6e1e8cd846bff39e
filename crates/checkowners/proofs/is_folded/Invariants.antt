-- `is_folded` meets its contract: `same` says whether the octets up to an index are folded (`Folding`).
use Rattle.checkowners.proofs.Counting.{Folding}
use Rattle.checkowners.proofs.is_folded.Given as goal

abbrev pub invariant-loop-o : goal.invariant-loop-o
invariant-loop-o l = Folding l.s l.same l.o-index
