-- `full8` meets its contract: the first k octets are all g, where the test holds (`all_more`).
use Rattle.climbing.proofs.Raising.{AllSo}
use Rattle.climbing.proofs.full8.Given as goal

abbrev pub invariant-loop-k : goal.invariant-loop-k
invariant-loop-k l = AllSo l.g l.octets l.p 8 l.full l.k
