-- `fold_long` meets its contract: before each turn the first i octets are put, and two blocks put more (`folding_blocks`), at last all.
use Rattle.space.proofs.FoldedBlocks.{folding_none, folding_blocks}
use native.Mathlib.Omega.{arith}
use Rattle.space.proofs.folding.fold_long.Goals as goal

pub loop-i-init : goal.loop-i-init
loop-i-init c = (omega arith, omega arith, folding_none _ _ _ _ _ (omega arith))

pub loop-i-preserved : goal.loop-i-preserved
loop-i-preserved c = let l = c.loop-i.invariant in
    (omega arith, omega arith, folding_blocks l.2 _ _ 16 c.fold_block.ensures c.fold_block-in-loop-i.ensures (omega arith))

pub returns : goal.returns
returns c = (folding_blocks c.loop-i.invariant.2 _ _ 16 c.fold_block-2.ensures c.fold_block-3.ensures {m = c.args.n}
    (omega arith)).is
