-- The digits of the groups that are read stand at the front of the space.
use Rattle.hashlabel.proofs.Grouped.{grouped_none, group_part, group_room, grouped_more, grouped_all}
use native.Mathlib.Omega.{arith}
use Rattle.hashlabel.proofs.groups.regroup.Goals as goal

pub loop-g-init : goal.loop-g-init
loop-g-init c = grouped_none

pub number-requires : goal.number-requires
number-requires c = group_part c.requires c.loop-g.invariant (omega arith)

pub put_digits-requires-clause-count_in_bounds : goal.put_digits-requires-clause-count_in_bounds
put_digits-requires-clause-count_in_bounds c = let q = c.requires in
    group_room q c.loop-g.invariant (omega arith)

pub put_digits-requires-clause-base_nonzero : goal.put_digits-requires-clause-base_nonzero
put_digits-requires-clause-base_nonzero c = let q = c.requires in
    (q.other_positive, q.other_high)

pub loop-g-preserved : goal.loop-g-preserved
loop-g-preserved c = grouped_more c.requires c.loop-g.invariant (omega arith) _ _ c.number.ensures
    c.put_digits.ensures

pub returns : goal.returns
returns c = grouped_all c.requires c.loop-g.invariant (omega arith)
