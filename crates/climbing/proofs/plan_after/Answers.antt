-- `plan_after` meets its contract: the least label in front (`after_child`), or a climb (`after_climbed`).
use Rattle.climbing.proofs.SuccessorPlans.{after_tries, after_child, after_climbed}
use Rattle.climbing.proofs.plan_after.Goals as goal

pub returns-then-allows_child : goal.returns-then-allows_child
returns-then-allows_child c = rw c.least.ensures (after_child c.requires c.args.past _ c.if-allows_child.true c.allows_child.ensures)

pub climbed-requires : goal.climbed-requires
climbed-requires c = rw c.start.ensures (after_tries c.requires c.args.past)

pub returns : goal.returns
returns c = after_climbed c.requires c.args.past _ c.if-allows_child.false c.allows_child.ensures
    (rw c.start.ensures at c.climbed.ensures)
