-- `enclose_after` meets its contract: its tests are the definition's.
use borrow.Author.Tests.{eq-eqb, ne_eqb, le-leb, lt-leb}
use Rattle.enclosing.proofs.enclose_after.Goals as goal

pub returns-then-n-m : goal.returns-then-n-m
returns-then-n-m c = rw (c.in-After.is, eq-eqb _ _ c.if-n-len.true, le-leb _ _ c.if-n-m.true)

pub returns-in-Before : goal.returns-in-Before
returns-in-Before c = rw c.in-Before.is c.longer_of.ensures

pub returns-else-n-m : goal.returns-else-n-m
returns-else-n-m c = rw (c.in-After.is, eq-eqb _ _ c.if-n-len.true, lt-leb _ _ c.if-n-m.false)

pub returns-else-n-len : goal.returns-else-n-len
returns-else-n-len c = rw (c.in-After.is, ne_eqb _ _ c.if-n-len.false)
