-- `deny_two` meets its contract: the four plans stand for the ends of the two gaps (`two_denied`).
use native.Mathlib.Omega.{arith}
use Rattle.denial.proofs.GapPlans.{asks, owner_writable, next_writable}
use Rattle.denial.proofs.WildPlans.{wild_owner_writable, wild_next_writable, wildcard_writable, two_denied}
use Rattle.denial.proofs.deny_two.Goals as goal

pub owner_plan-a-requires : goal.owner_plan-a-requires
owner_plan-a-requires c = let m = c.requires.0.closer_missing in (asks _ _ _ m.asked, omega (arith, m.longer))

pub next_plan-b-requires : goal.next_plan-b-requires
next_plan-b-requires c = asks _ _ _ c.requires.0.closer_missing.asked

pub wild_owner-c-requires : goal.wild_owner-c-requires
wild_owner-c-requires c = omega (arith, c.requires.0.closer_missing.asked.most)

pub write_joined-requires : goal.write_joined-requires
write_joined-requires c = let a = c.args in
    let k = c.requires.0 in let q = k.closer_missing.asked in (
      wildcard_writable a.apex.now a.limit a.encloser.now a.closer.now k c.requires.1,
      owner_writable _ _ _ q c.owner_plan-a.ensures,
      next_writable _ _ _ q c.next_plan-b.ensures,
      wild_owner_writable a.apex.now a.limit a.encloser.now a.closer.now k c.requires.1 c.wild_owner-c.ensures,
      wild_next_writable a.apex.now a.limit a.encloser.now a.closer.now k c.requires.1 c.wild_next-d.ensures,
    )

pub returns : goal.returns
returns c = let a = c.args in let k = c.requires.0 in
    two_denied a.apex.now a.limit a.encloser.now a.closer.now k c.requires.1 k.closer_missing.asked
    c.owner_plan-a.ensures c.next_plan-b.ensures c.wild_owner-c.ensures c.wild_next-d.ensures c.greatest-g.ensures
    c.write_joined.ensures
