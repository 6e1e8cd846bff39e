-- The digits of the first characters are copied.
use Rattle.hashlabel.proofs.Spelling.{unspelled_none, unspelled_more, unspelled_all}
use Rattle.hashlabel.proofs.unspell.Goals as goal

pub loop-i-init : goal.loop-i-init
loop-i-init c = unspelled_none c.args.label.now c.requires.0 c.requires.1

pub digit_of-requires : goal.digit_of-requires
digit_of-requires c = tt

pub loop-i-preserved : goal.loop-i-preserved
loop-i-preserved c = unspelled_more c.args.label.now c.requires.0 c.requires.1 c.loop-i.invariant c.loop-i-test.true _ c.digit_of.ensures

pub returns : goal.returns
returns c = unspelled_all c.args.label.now c.requires.0 c.requires.1 c.loop-i.invariant c.loop-i-test.false
