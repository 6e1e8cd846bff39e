-- `copy` meets its contract: each way puts all octets, in blocks that overlap (`copied_ends`).
use native.Mathlib.Omega.{arith}
use Rattle.space.proofs.CopiedBlocks.{copied_ends}
use Rattle.space.proofs.copying.copy.Goals as goal

pub returns-then-n-ge8 : goal.returns-then-n-ge8
returns-then-n-ge8 c = copied_ends _ _ _ 8 c.copy_block.ensures _ c.copy_block-then-n-ge8.ensures (omega arith)

pub returns-then-n-ge4 : goal.returns-then-n-ge4
returns-then-n-ge4 c = copied_ends _ _ _ 4 c.copy_block-then-n-ge4.ensures _ c.copy_block-then-n-ge4-2.ensures (omega arith)
