-- `less` meets its contract: the first part that differs decides, whatever stands behind it.
use Rattle.std.proofs.Common.{arith}
use Rattle.hash.proofs.Lesser.{lesser_high, lesser_middle, lesser_low, greater_high, greater_middle, not_lesser_low}
use Rattle.hash.proofs.intervals.less.Goals as goal

pub returns-then-a-b : goal.returns-then-a-b
returns-then-a-b c = lesser_high _ _ _ _ _ _ (omega arith)

pub returns-then-b-a : goal.returns-then-b-a
returns-then-b-a c = greater_high _ _ _ _ _ _ (omega arith)

pub returns-then-a-b-2 : goal.returns-then-a-b-2
returns-then-a-b-2 c = lesser_middle _ _ _ _ _ _ (omega arith)

pub returns-then-b-a-2 : goal.returns-then-b-a-2
returns-then-b-a-2 c = greater_middle _ _ _ _ _ _ (omega arith)

pub returns-then-a-b-3 : goal.returns-then-a-b-3
returns-then-a-b-3 c = lesser_low _ _ _ _ _ _ (omega arith)

pub returns : goal.returns
returns c = not_lesser_low _ _ _ _ _ _ (omega arith)
