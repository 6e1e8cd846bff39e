-- The subtree successor is an instance of `nearest`: the way past a name, in the zone's alphabet and at any depth.
use Rattle.subtree.proofs.subtree_successor.Goals as goal

pub returns : goal.returns
returns c = c.nearest.ensures
