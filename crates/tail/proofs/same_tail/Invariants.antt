-- `same_tail` meets its contract: the last k blocks are the same (`Tail`), and one that is the same before them makes them one more.
use Prim.Native.Nat.{◌*◌}
use Rattle.tail.proofs.Tails.{Tail}
use Rattle.tail.proofs.same_tail.Given as goal

abbrev pub invariant-loop-k : goal.invariant-loop-k
invariant-loop-k l = Tail l.s l.t (l.k * l.w)
