-- `copy_long` meets its contract: before each turn the first i octets are put, and two blocks put more (`copying_blocks`), at last all.
use native.Mathlib.Omega.{arith}
use Rattle.space.proofs.CopiedBlocks.{copying_none, copying_blocks, copying_last}
use Rattle.space.proofs.copying.copy_long.Goals as goal

pub loop-i-init : goal.loop-i-init
loop-i-init c = (omega arith, omega arith, copying_none _ _ _ (omega arith))

pub loop-i-preserved : goal.loop-i-preserved
loop-i-preserved c = let l = c.loop-i.invariant in
    (omega arith, omega arith, copying_blocks l.2 _ _ 16 c.copy_block.ensures c.copy_block-in-loop-i.ensures (omega arith))

pub returns : goal.returns
returns c = copying_last c.loop-i.invariant.2 _ _ 16 c.copy_block-2.ensures c.copy_block-3.ensures (omega arith)
