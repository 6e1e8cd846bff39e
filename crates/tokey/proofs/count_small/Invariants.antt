-- `count_small` meets its contract: the octets 0 and 1 that are counted and those still to come are all.
use Rattle.tokey.proofs.SmallCounts.{Counting}
use Rattle.tokey.proofs.count_small.Given as goal

abbrev pub invariant-loop-o : goal.invariant-loop-o
invariant-loop-o l = Counting l.octets l.n l.o-index
