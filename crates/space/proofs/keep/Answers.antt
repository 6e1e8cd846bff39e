-- `keep` meets its contract: the octets before the i-th are moved, and the i-th stands where it stood.
use Rattle.space.proofs.Putting.{copied_none, copied_more, copied_all, kept_none, kept_length, kept_put, kept_octet}
use mathlib.Core.Path.{sym, ◌∙◌}
use native.Mathlib.Omega.{arith}
use borrow.Author.Tests.{leb-true, leb-false}
use Rattle.space.proofs.keep.Goals as goal

pub loop-i-init : goal.loop-i-init
loop-i-init c = let has = leb-true _ _ (sym c.within.ensures ∙ c.if-within.true) in
    (has, copied_none _ _ _ (kept_length _ _ _ has) (omega arith))

pub loop-i-preserved : goal.loop-i-preserved
loop-i-preserved c = let l = c.loop-i.invariant in let more = c.loop-i-test.true in
    (l.0, copied_more l.1 _ _ more (omega arith) (kept_octet _ _ _ l.0 l.1 more))

pub returns-after-loop-i : goal.returns-after-loop-i
returns-after-loop-i c = copied_all c.loop-i.invariant.1 c.loop-i-test.false ∙ sym (kept_put _ _ _ c.loop-i.invariant.0)

pub returns-else-within : goal.returns-else-within
returns-else-within c = kept_none _ _ _ (leb-false _ _ (sym c.within.ensures ∙ c.if-within.false))
