-- `enclose` meets its contract: only a query after the owner has an encloser.
use Rattle.enclosing.proofs.enclose.Goals as goal

pub returns-in-After : goal.returns-in-After
returns-in-After c = rw c.in-After.is c.enclose_after.ensures
