-- `shown_block` meets its contract: where `all` is true, the first k characters pass the test (`each_more`).
use Rattle.totext.specs.Private.Shown.{Each}
use Rattle.totext.proofs.shown.shown_block.Given as goal

abbrev pub invariant-loop-k : goal.invariant-loop-k
invariant-loop-k l = Each l.s l.t l.p l.k l.all
