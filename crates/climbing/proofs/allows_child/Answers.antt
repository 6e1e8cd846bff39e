-- `allows_child` meets its contract: the tests are those of depth and limit.
use mathlib.Core.Path.{refl}
use native.Mathlib.Omega.{arith}
use Rattle.checks.proofs.LastAbove.{last_all}
use Rattle.climbing.proofs.SuccessorPlans.{child_none, child_tight, child_more}
use Rattle.climbing.proofs.allows_child.Goals as goal

pub more-requires : goal.more-requires
more-requires c = let q = c.requires in (q.boundary, last_all q.last c.if-at-eq0.true)

pub returns-then-past : goal.returns-then-past
returns-then-past c = rw c.if-past.true refl

pub returns-then-at-eq0 : goal.returns-then-at-eq0
returns-then-at-eq0 c = rw c.if-past.false (child_more c.requires c.if-name-limit.true c.if-at-eq0.true _ c.more.ensures)

pub returns-else-at-eq0 : goal.returns-else-at-eq0
returns-else-at-eq0 c = rw c.if-past.false (child_none c.requires (omega arith))

pub returns-else-name-limit : goal.returns-else-name-limit
returns-else-name-limit c = rw c.if-past.false (child_tight c.requires c.if-name-limit.false)
