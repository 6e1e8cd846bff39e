-- `fold_few` meets its contract: each octet is a block, and the three of them overlap or touch (`folded_few`).
use native.Mathlib.Omega.{arith}
use Rattle.space.proofs.FoldedBlocks.{folded_nothing, folded_few}
use lib.ListN.{length-set}
use Rattle.space.proofs.folding.fold_few.Goals as goal

pub bounds-d-at-then-n-gt0 : goal.bounds-d-at-then-n-gt0
bounds-d-at-then-n-gt0 c = simp length-set (omega arith)

pub bounds-d-at-then-n-gt0-2 : goal.bounds-d-at-then-n-gt0-2
bounds-d-at-then-n-gt0-2 c = simp length-set (omega arith)

pub returns-then-n-gt0 : goal.returns-then-n-gt0
returns-then-n-gt0 c = folded_few _ _ _ _ _ c.lower.ensures c.lower-then-n-gt0.ensures c.lower-then-n-gt0-2.ensures (omega arith)

pub returns-else-n-gt0 : goal.returns-else-n-gt0
returns-else-n-gt0 c = folded_nothing _ _ _ _ _ (omega arith)
