-- `raised` meets its contract: the octet is the next one.
use Rattle.climbing.proofs.raised.Goals as goal

pub returns : goal.returns
returns c = rw (c.next.ensures, c.lower.ensures)
