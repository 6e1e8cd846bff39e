-- `others` meets its contract: n of the first k octets are others (`counted_more`).
use Rattle.spelling.proofs.SpelledLabels.{Counted}
use Rattle.spelling.proofs.others.Given as goal

abbrev pub invariant-loop-k : goal.invariant-loop-k
invariant-loop-k l = Counted l.octets l.count l.n l.k
