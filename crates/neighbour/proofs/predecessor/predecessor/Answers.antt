-- The absolute predecessor is an instance of `nearest`: that of all depths.
use Rattle.neighbour.proofs.predecessor.predecessor.Goals as goal

pub returns : goal.returns
returns c = c.nearest.ensures
