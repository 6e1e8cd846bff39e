-- The modified successor is an instance of `nearest`: the check 7 is that of the depth which the number stands for (`depth_lines`).
use Rattle.name.proofs.Answers.{fills_same}
use Rattle.neighbour.proofs.Depths.{modified_successor_nearest}
use Rattle.neighbour.proofs.modified.modified_successor.Goals as goal

pub returns : goal.returns
returns c = let a = c.args in
    fills_same (modified_successor_nearest a.apex.now a.limit a.name.now a.alphabet a.depth)
    (rw c.depth_of.ensures at c.nearest.ensures)
