-- `others` meets its contract: n of the first k octets are others (`counted_more`).
use native.Mathlib.Omega.{arith}
use Rattle.spelling.proofs.SpelledLabels.{counted_none, counted_more, counted_all}
use Rattle.spelling.proofs.others.Goals.{else-not-folds_to_ldh, then-not-folds_to_ldh}
use Rattle.spelling.proofs.others.Goals as goal

pub loop-k-init : goal.loop-k-init
loop-k-init c = counted_none _ _ c.requires

pub bounds-octets-k : goal.bounds-octets-k
bounds-octets-k c = let l = c.loop-k.invariant in omega (arith, l.has)

pub overflow_add-n : goal.overflow_add-n
overflow_add-n c = let l = c.loop-k.invariant in omega arith

pub loop-k-preserved : goal.loop-k-preserved
loop-k-preserved c = counted_more c.loop-k.invariant (omega arith) c.folds_to_ldh.ensures
    (elim c.if-not-folds_to_ldh.branch [
      | then-not-folds_to_ldh w ↦ rw w.if-not-folds_to_ldh.true (omega (arith, w.n-is))
      | else-not-folds_to_ldh w ↦ rw w.if-not-folds_to_ldh.false (omega (arith, w.n-is))
    ])

pub returns : goal.returns
returns c = counted_all c.loop-k.invariant (omega arith)
