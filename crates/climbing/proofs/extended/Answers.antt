-- `extended` meets its contract: the octet is the least one.
use Rattle.climbing.proofs.extended.Goals as goal

pub returns : goal.returns
returns c = rw c.least.ensures
