-- `deny_one` meets its contract: the two plans stand for the ends of the gap (`one_denied`).
use native.Mathlib.Omega.{arith}
use Rattle.denial.proofs.GapPlans.{asks, owner_writable, next_writable, one_denied}
use Rattle.denial.proofs.deny_one.Goals as goal

pub owner_plan-a-requires : goal.owner_plan-a-requires
owner_plan-a-requires c = (asks _ _ _ c.requires.asked, omega (arith, c.requires.longer))

pub next_plan-b-requires : goal.next_plan-b-requires
next_plan-b-requires c = asks _ _ _ c.requires.asked

pub write_one-requires : goal.write_one-requires
write_one-requires c =
    (owner_writable _ _ _ c.requires.asked c.owner_plan-a.ensures, next_writable _ _ _ c.requires.asked c.next_plan-b.ensures)

pub returns : goal.returns
returns c = let a = c.args in
    one_denied a.apex.now a.limit a.name.now c.requires.asked c.owner_plan-a.ensures c.next_plan-b.ensures
    c.greatest-g.ensures c.write_one.ensures
