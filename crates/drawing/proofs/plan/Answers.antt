-- `plan` meets its contract: each way is what its function promises.
use mathlib.Core.Path.{sym, ◌∙◌}
use Rattle.climbing.proofs.SuccessorPlans.{before_way, after_way}
use Rattle.drawing.proofs.plan.Goals as goal

pub returns-then-is_before : goal.returns-then-is_before
returns-then-is_before c = rw (before_way c.args.way (sym c.is_before.ensures ∙ c.if-is_before.true)) c.plan_before.ensures

pub returns : goal.returns
returns c = rw (after_way c.args.way (sym c.is_before.ensures ∙ c.if-is_before.false))
    (rw c.is_past.ensures at c.plan_after.ensures)
