-- `same_block` meets its contract: `same` says whether the first k octets are the same (`comparing_octet`).
use native.Mathlib.Omega.{arith}
use Rattle.space.proofs.SameBlocks.{comparing_none, comparing_octet, comparing_all}
use Rattle.space.proofs.sameness.same_block.Goals as goal

pub loop-k-init : goal.loop-k-init
loop-k-init c = comparing_none _ _ _ _ _ (omega arith)

pub loop-k-preserved : goal.loop-k-preserved
loop-k-preserved c = comparing_octet c.loop-k.invariant c.same_octet-same.ensures (omega arith)

pub returns : goal.returns
returns c = comparing_all c.loop-k.invariant (omega arith)
