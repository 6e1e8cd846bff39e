-- `is_folded` meets its contract: `same` says whether the octets up to an index are folded (`Folding`).
use mathlib.Core.Path.{refl}
use native.Mathlib.Omega.{arith}
use Rattle.checkowners.proofs.Counting.{folding_none, folding_next, folding_all}
use Rattle.checkowners.proofs.is_folded.Goals as goal

pub loop-o-init : goal.loop-o-init
loop-o-init c = folding_none _

pub loop-o-preserved : goal.loop-o-preserved
loop-o-preserved c = folding_next c.loop-o.invariant (omega arith) _ _ _ refl c.lower.ensures refl

pub returns : goal.returns
returns c = folding_all c.loop-o.invariant (omega arith)
