-- `same_front` meets its contract: the first k blocks are the same (`Front`), and one that is the same behind them makes them one more.
use Prim.Native.Nat.{◌*◌}
use Rattle.tail.proofs.Tails.{Front}
use Rattle.tail.proofs.same_front.Given as goal

abbrev pub invariant-loop-k : goal.invariant-loop-k
invariant-loop-k l = Front l.s l.t (l.k * 8)
