-- The tests of the code are those of the definition, one by one (`between_told`).
use Rattle.hash.proofs.Lesser.{between_told}
use Rattle.std.proofs.Common.{sym, refl, ◌∙◌}
use Rattle.hash.proofs.intervals.hash_between.Goals as goal

pub returns-then-less-2 : goal.returns-then-less-2
returns-then-less-2 c = between_told _ _ _ _ _ _ _ _ _ _ _ _ c.in_parts-a.ensures c.in_parts-v.ensures c.in_parts-b.ensures
    (sym c.if-less.true ∙ c.less.ensures) (sym c.if-less-2.true ∙ c.less-then-less.ensures) c.less-then-less-2.ensures

pub returns-then-less : goal.returns-then-less
returns-then-less c = between_told _ _ _ _ _ _ _ _ _ _ _ _ c.in_parts-a.ensures c.in_parts-v.ensures c.in_parts-b.ensures
    (sym c.if-less.true ∙ c.less.ensures) (sym c.if-less-2.false ∙ c.less-then-less.ensures) (refl)

pub returns-then-less-3 : goal.returns-then-less-3
returns-then-less-3 c = between_told _ _ _ _ _ _ _ _ _ _ _ _ c.in_parts-a.ensures c.in_parts-v.ensures c.in_parts-b.ensures
    (sym c.if-less.false ∙ c.less.ensures) (sym c.if-less-3.true ∙ c.less-2.ensures) (refl)

pub returns : goal.returns
returns c = between_told _ _ _ _ _ _ _ _ _ _ _ _ c.in_parts-a.ensures c.in_parts-v.ensures c.in_parts-b.ensures
    (sym c.if-less.false ∙ c.less.ensures) (sym c.if-less-3.false ∙ c.less-2.ensures) c.less-3.ensures
