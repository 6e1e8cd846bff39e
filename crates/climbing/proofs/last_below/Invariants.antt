-- `last_below` meets its contract: the octets from k on are the greatest, and the first one before them that is not ends the search.
use Rattle.climbing.specs.Private.Raised.{Trailing}
use Rattle.climbing.proofs.last_below.Given as goal

abbrev pub invariant-loop-k : goal.invariant-loop-k
invariant-loop-k l = Trailing l.g l.octets l.first l.count l.k
