-- `put_block` meets its contract: where both sides have 16 octets they are copied, and otherwise none.
use mathlib.Core.Path.{sym, ◌∙◌}
use borrow.Author.Tests.{leb-true, leb-false}
use Rattle.space.proofs.Putting.{part_length, put_none, folded_none, folded_put}
use Rattle.space.proofs.put_block.Goals as goal

pub fold_block-requires-clause-w_in_bounds : goal.fold_block-requires-clause-w_in_bounds
fold_block-requires-clause-w_in_bounds c = let within_d = leb-true _ _ (sym c.within-then-within.ensures ∙ c.if-within-2.true) in
    let within-s = leb-true _ _ (sym c.within.ensures ∙ c.if-within.true) in
    (within_d, within-s)

pub returns-else-within-2 : goal.returns-else-within-2
returns-else-within-2 c = let has = leb-true _ _ (sym c.within.ensures ∙ c.if-within.true) in
    put_none _ _ _ (part_length _ _ _ has) (leb-false _ _ (sym c.within-then-within.ensures ∙ c.if-within-2.false))
    ∙ sym (folded_put _ _ _ _ _ has)

pub returns-else-within : goal.returns-else-within
returns-else-within c = folded_none _ _ _ _ _ (leb-false _ _ (sym c.within.ensures ∙ c.if-within.false))
