-- `put` meets its contract: the octets before the i-th are copied.
use mathlib.Core.Path.{refl, sym, ◌∙◌}
use borrow.Author.Tests.{leb-true, leb-false}
use Rattle.space.proofs.Putting.{copied_none, copied_more, copied_all, put_none}
use Rattle.space.proofs.put.Goals as goal

pub loop-i-init : goal.loop-i-init
loop-i-init c = copied_none _ _ _ refl (leb-true _ _ (sym c.within.ensures ∙ c.if-within.true))

pub loop-i-preserved : goal.loop-i-preserved
loop-i-preserved c = copied_more c.loop-i.invariant _ _ c.loop-i-test.true refl refl

pub returns-after-loop-i : goal.returns-after-loop-i
returns-after-loop-i c = copied_all c.loop-i.invariant c.loop-i-test.false

pub returns-else-within : goal.returns-else-within
returns-else-within c = put_none _ _ _ refl (leb-false _ _ (sym c.within.ensures ∙ c.if-within.false))
