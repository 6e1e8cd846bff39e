-- `more` meets its contract: where all labels are allowed 127 are enough, and else the difference is exact.
use mathlib.Core.Logic.{inl, inr}
use native.Mathlib.Omega.{arith}
use Rattle.plan.proofs.lowering.more.Goals as goal

pub returns-then-most-eq-MAX_LABELS : goal.returns-then-most-eq-MAX_LABELS
returns-then-most-eq-MAX_LABELS c = inr (omega (arith, c.most_labels-most.ensures), omega arith)

pub returns : goal.returns
returns c = inl (omega (arith, c.count.ensures, c.most_labels-most.ensures))
