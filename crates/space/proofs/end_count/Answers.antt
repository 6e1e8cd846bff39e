-- `end_count` meets its contract, by the tests of its definition.
use native.Mathlib.Omega.{arith}
use Rattle.space.proofs.Ends.{end_few, end_many}
use Rattle.space.proofs.end_count.Goals as goal

pub returns-then-min-lt16 : goal.returns-then-min-lt16
returns-then-min-lt16 c = end_few _ _ _ (omega arith)

pub returns : goal.returns
returns c = end_many _ _ _ (omega arith) (omega arith)
