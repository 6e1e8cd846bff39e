-- `longer_of` meets its contract: its test is the definition's.
use Rattle.enclosing.proofs.Enclosing.{longer_next, longer_owner}
use Rattle.enclosing.proofs.longer_of.Goals as goal

pub returns-then-owner-next : goal.returns-then-owner-next
returns-then-owner-next c = longer_next c.if-owner-next.true

pub returns : goal.returns
returns c = longer_owner c.if-owner-next.false
