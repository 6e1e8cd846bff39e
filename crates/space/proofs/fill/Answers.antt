-- `fill` meets its contract: the octets before the i-th are written.
use mathlib.Core.Path.{refl, sym, ◌∙◌}
use borrow.Author.Tests.{leb-true, leb-false}
use lib.ListN.{length-replicate, get_or-replicate}
use Rattle.space.proofs.Putting.{copied_none, copied_more, copied_all, put_none}
use Rattle.space.proofs.fill.Goals as goal

pub loop-i-init : goal.loop-i-init
loop-i-init c = copied_none _ _ _ (length-replicate _ _) (leb-true _ _ (sym c.within.ensures ∙ c.if-within.true))

pub loop-i-preserved : goal.loop-i-preserved
loop-i-preserved c = copied_more c.loop-i.invariant _ _ c.loop-i-test.true refl (sym (get_or-replicate _ _ _ 0 c.loop-i-test.true))

pub returns-after-loop-i : goal.returns-after-loop-i
returns-after-loop-i c = copied_all c.loop-i.invariant c.loop-i-test.false

pub returns-else-within : goal.returns-else-within
returns-else-within c = put_none _ _ _ (length-replicate _ _) (leb-false _ _ (sym c.within.ensures ∙ c.if-within.false))
