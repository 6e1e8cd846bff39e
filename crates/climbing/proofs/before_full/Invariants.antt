-- `before_full` meets its contract: the octets from k on are g, and a block of them more is taken off (`trailing_more`).
use Rattle.climbing.specs.Private.Raised.{Trailing}
use Rattle.climbing.proofs.before_full.Given as goal

abbrev pub invariant-loop-k : goal.invariant-loop-k
invariant-loop-k l = Trailing l.g l.octets l.first l.count l.k

abbrev pub decreases-loop-k : goal.decreases-loop-k
decreases-loop-k l = l.k
