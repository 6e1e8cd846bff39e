-- `signed_number` meets its contract: one more than at most 126 fits 16 bits with either sign.
use mir.Facts.{to_z-of_z}
use Rattle.order.proofs.SmallNumbers.{small, neg_small, negsuc_fits}
use Rattle.order.proofs.signed_number.Goals as goal

pub overflow_sub-result : goal.overflow_sub-result
overflow_sub-result c = rw (neg_small _ c.requires) (negsuc_fits _ c.requires)

pub returns-in-Less : goal.returns-in-Less
returns-in-Less c = let a = c.args in
    let p = c.requires in
    rw (c.in-Less.is, neg_small a.shared p) (to_z-of_z (negsuc_fits a.shared p))

pub returns-in-Equal : goal.returns-in-Equal
returns-in-Equal c = rw c.in-Equal.is

pub returns-in-Greater : goal.returns-in-Greater
returns-in-Greater c = let a = c.args in rw c.in-Greater.is (small a.shared c.requires)
