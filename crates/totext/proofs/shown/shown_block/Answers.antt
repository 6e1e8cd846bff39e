-- `shown_block` meets its contract: where `all` is true, the first k characters pass the test (`each_more`).
use Rattle.totext.proofs.ShownBlocks.{each_more}
use Rattle.totext.proofs.shown.shown_block.Goals as goal

pub loop-k-preserved : goal.loop-k-preserved
loop-k-preserved c = each_more c.loop-k.invariant c.is_shown-all.ensures
