-- `copy_folded` meets its contract: each way puts all octets, in blocks that overlap (`folded_ends`).
use native.Mathlib.Omega.{arith}
use Rattle.space.proofs.FoldedBlocks.{folded_ends}
use Rattle.space.proofs.folding.copy_folded.Goals as goal

pub returns-then-n-ge8 : goal.returns-then-n-ge8
returns-then-n-ge8 c = folded_ends _ _ _ _ _ 8 c.fold_block.ensures c.fold_block-then-n-ge8.ensures (omega arith)

pub returns-then-n-ge4 : goal.returns-then-n-ge4
returns-then-n-ge4 c = folded_ends _ _ _ _ _ 4 c.fold_block-then-n-ge4.ensures c.fold_block-then-n-ge4-2.ensures (omega arith)
