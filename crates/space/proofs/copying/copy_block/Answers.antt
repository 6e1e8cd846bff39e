-- `copy_block` meets its contract: the first k octets stand in the array (`Taken`), and then in the space (`Block`).
use mathlib.Core.Path.{refl}
use native.Mathlib.Omega.{arith}
use Rattle.space.proofs.Taken.{taken_none, taken_more}
use Rattle.space.proofs.CopiedBlocks.{block_none, block_more, block_all}
use Rattle.space.proofs.copying.copy_block.Goals as goal

pub loop-k-init : goal.loop-k-init
loop-k-init c = (omega arith, taken_none _ _ refl)

pub loop-k-preserved : goal.loop-k-preserved
loop-k-preserved c = (omega arith, taken_more c.loop-k.invariant.1 (omega arith) _ refl)

pub loop-k-2-init : goal.loop-k-2-init
loop-k-2-init c = (refl, block_none _ _ _ _ _ c.loop-k.invariant.1 (omega arith))

pub loop-k-2-preserved : goal.loop-k-2-preserved
loop-k-2-preserved c = let l = c.loop-k-2.invariant in
    (l.0, block_more l.1 c.loop-k-2-test.true _ (omega arith))

pub returns : goal.returns
returns c = block_all c.loop-k-2.invariant.1 c.loop-k-2-test.false
