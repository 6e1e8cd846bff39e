-- `label_len` meets its contract, by the cases of the definition.
use mathlib.Core.Path.{sym}
use native.Mathlib.Omega.{arith}
use Rattle.writing.proofs.PlanWriting.{label_none, label_some}
use Rattle.writing.proofs.label_len.Goals as goal

pub returns-then-tail-eq0 : goal.returns-then-tail-eq0
returns-then-tail-eq0 c = sym (label_none _ _ c.if-tail-eq0.true)

pub returns : goal.returns
returns c = sym (label_some _ _ (omega arith))
