-- `long_shown` meets its contract: where `all` is true, the first i characters pass the test, or all of them (`each_block`).
use native.Mathlib.Omega.{arith}
use Rattle.totext.proofs.ShownBlocks.{each_block}
use Rattle.totext.proofs.shown.long_shown.Goals as goal

pub loop-i-preserved : goal.loop-i-preserved
loop-i-preserved c = each_block c.loop-i.invariant c.shown_block-all.ensures (omega arith)

pub returns-2 : goal.returns-2
returns-2 c = each_block c.loop-i.invariant c.shown_block-all.ensures (omega arith)
