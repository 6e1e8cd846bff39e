-- `same_block` meets its contract: `same` says whether the first k octets of the two blocks are the same (`Agree`).
use Prim.Native.Nat.{◌≤◌}
use Rattle.tail.proofs.Tails.{Agree}
use Rattle.tail.proofs.same_block.Given as goal

abbrev pub invariant-loop-k : goal.invariant-loop-k
invariant-loop-k l = (l.k ≤ l.w) × Agree l.s l.p l.t l.q l.k l.same
