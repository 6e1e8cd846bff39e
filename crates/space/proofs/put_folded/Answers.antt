-- `put_folded` meets its contract: where both sides have so many octets they are copied, and otherwise none.
use mathlib.Core.Path.{sym, ◌∙◌}
use borrow.Author.Tests.{leb-true, leb-false}
use Rattle.space.proofs.Putting.{part_length, put_none, folded_none, folded_put}
use Rattle.space.proofs.put_folded.Goals as goal

pub copy_folded-requires : goal.copy_folded-requires
copy_folded-requires c =
    (leb-true _ _ (sym c.within-then-within.ensures ∙ c.if-within-2.true), leb-true _ _ (sym c.within.ensures ∙ c.if-within.true))

pub returns-else-within-2 : goal.returns-else-within-2
returns-else-within-2 c = let has = leb-true _ _ (sym c.within.ensures ∙ c.if-within.true) in
    put_none _ _ _ (part_length _ _ _ has) (leb-false _ _ (sym c.within-then-within.ensures ∙ c.if-within-2.false))
    ∙ sym (folded_put _ _ _ _ _ has)

pub returns-else-within : goal.returns-else-within
returns-else-within c = folded_none _ _ _ _ _ (leb-false _ _ (sym c.within.ensures ∙ c.if-within.false))
