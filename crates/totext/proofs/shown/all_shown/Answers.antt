-- `all_shown` meets its contract: each way tests all characters, in blocks that overlap (`each_block`).
use native.Mathlib.Omega.{arith}
use Rattle.totext.proofs.ShownBlocks.{each_block}
use Rattle.totext.proofs.shown.all_shown.Goals as goal

pub returns-then-n-ge16 : goal.returns-then-n-ge16
returns-then-n-ge16 c = each_block c.shown_block.ensures c.shown_block-then-n-ge16.ensures (omega arith)

pub returns-then-n-ge8 : goal.returns-then-n-ge8
returns-then-n-ge8 c = each_block c.shown_block-then-n-ge8.ensures c.shown_block-then-n-ge8-2.ensures (omega arith)

pub returns-then-n-ge4 : goal.returns-then-n-ge4
returns-then-n-ge4 c = each_block c.shown_block-then-n-ge4.ensures c.shown_block-then-n-ge4-2.ensures (omega arith)
