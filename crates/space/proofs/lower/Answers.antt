-- `lower` meets its contract, by the cases of a letter and of any other octet.
use borrow.Author.Tests.{le-leb, lt-leb}
use Rattle.space.proofs.lower.Goals as goal

pub returns-then-o-le90 : goal.returns-then-o-le90
returns-then-o-le90 c = simp (le-leb _ _ c.if-o-ge65.true, le-leb _ _ c.if-o-le90.true)

pub returns-else-o-le90 : goal.returns-else-o-le90
returns-else-o-le90 c = simp (le-leb _ _ c.if-o-ge65.true, lt-leb _ _ c.if-o-le90.false)

pub returns-else-o-ge65 : goal.returns-else-o-ge65
returns-else-o-ge65 c = simp (lt-leb _ _ c.if-o-ge65.false)
