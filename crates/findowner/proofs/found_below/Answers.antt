-- `found_below` meets its contract, by whether there is an index below.
use Rattle.findowner.proofs.Turns.{below_some}
use Rattle.findowner.proofs.found_below.Goals as goal

pub returns-then-low-eq0 : goal.returns-then-low-eq0
returns-then-low-eq0 c = rw c.if-low-eq0.true

pub returns : goal.returns
returns c = below_some _ _ c.if-low-eq0.false
