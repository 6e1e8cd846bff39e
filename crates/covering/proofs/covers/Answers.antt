-- `covers` meets its contract: how the name and the ends of the gap sort decides whether it is covered (`covered_by_lem`).
use mathlib.Core.Path.{◌∙◌}
use Rattle.covering.proofs.Sorted.{covered_by_lem, between_both}
use Rattle.covering.proofs.covers.Goals as goal

pub returns-then-after-before : goal.returns-then-after-before
returns-then-after-before c = between_both c.in-Some.after c.in-Some-sort.before _ c.if-after-before.true
    ∙ covered_by_lem _ _ _ c.sort.ensures c.sort-2.ensures c.in-Some.is c.in-Some-sort.is
