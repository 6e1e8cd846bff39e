-- `is_wild` meets its contract: the tests are those of `is_wild`, in turn.
use borrow.Author.Tests.{eq-eqb, ne_eqb}
use Rattle.denial.proofs.wild.is_wild.Goals as goal

pub returns-then-name-eq1 : goal.returns-then-name-eq1
returns-then-name-eq1 c = rw (eq-eqb _ _ c.if-name-n.true, eq-eqb _ _ c.if-name-eq1.true)

pub returns-else-name-eq1 : goal.returns-else-name-eq1
returns-else-name-eq1 c = rw (eq-eqb _ _ c.if-name-n.true, ne_eqb _ _ c.if-name-eq1.false)

pub returns-else-name-n : goal.returns-else-name-n
returns-else-name-n c = rw (ne_eqb _ _ c.if-name-n.false)
