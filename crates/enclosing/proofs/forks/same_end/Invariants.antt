-- `same_end` meets its contract: the last c octets are the same (`Tail`), and either one more is, or they are all.
use Rattle.tail.proofs.Tails.{Tail}
use Rattle.enclosing.proofs.forks.same_end.Given as goal

abbrev pub invariant-loop-c : goal.invariant-loop-c
invariant-loop-c l = Tail l.s l.t l.c
