-- `same_block` meets its contract: `same` says whether the first k octets are the same (`comparing_octet`).
use Rattle.space.proofs.SameBlocks.{Comparing}
use Rattle.space.proofs.sameness.same_block.Given as goal

abbrev pub invariant-loop-k : goal.invariant-loop-k
invariant-loop-k l = Comparing l.s l.p l.t l.q l.w l.same l.k
