-- `copy_few` meets its contract: each octet is a block, and the three of them overlap or touch (`copied_few`).
use native.Mathlib.Omega.{arith}
use Rattle.space.proofs.CopiedBlocks.{copied_few, copied_nothing}
use Rattle.space.proofs.copying.copy_few.Goals as goal

pub returns-then-n-gt0 : goal.returns-then-n-gt0
returns-then-n-gt0 c =
    copied_few _ _ _ c.copy_block.ensures _ c.copy_block-then-n-gt0.ensures _ c.copy_block-then-n-gt0-2.ensures (omega arith)

pub returns-else-n-gt0 : goal.returns-else-n-gt0
returns-else-n-gt0 c = copied_nothing _ _ _ (omega arith)
