-- The types rise up to the index i, and the windows that have ended are counted (`Surveying`).
use Prim.Native.Nat.{ℕ}
use native.Mathlib.Omega.{arith}
use Rattle.totypes.proofs.Surveying.{survey_none, surveying_start, surveying_falls, surveying_same, surveying_next}
use Rattle.totypes.proofs.Surveying.{surveying_all}
use Rattle.totypes.proofs.survey.Goals.{else-t-last-2, then-t-last-2}
use Rattle.totypes.proofs.survey.Goals as goal

pub returns-then-types-eq0 : goal.returns-then-types-eq0
returns-then-types-eq0 c = survey_none _ c.if-types-eq0.true

pub loop-i-init : goal.loop-i-init
loop-i-init c = surveying_start (λ i. (c.type_inv.types i).fits) (omega arith)

pub returns-then-t-last : goal.returns-then-t-last
returns-then-t-last c =
    (surveying_falls (λ i. (c.type_inv.types i).fits) c.loop-i.invariant c.loop-i-test.true (omega arith), c.loop-i-test.true)

pub window_size-size-requires : goal.window_size-size-requires
window_size-size-requires c = tt

pub overflow_add-size : goal.overflow_add-size
overflow_add-size c = omega (arith, c.loop-i.invariant, c.window_size-size.ensures)

pub loop-i-preserved : goal.loop-i-preserved
loop-i-preserved c = let fits = λ (i : ℕ). (c.type_inv.types i).fits in
    elim c.if-t-last-2.branch [
      | then-t-last-2 w ↦ rw (w.size-is, w.window_size-size.ensures)
          (surveying_next fits c.loop-i.invariant c.loop-i-test.true c.if-t-last.false w.if-t-last-2.true)
      | else-t-last-2 w ↦ rw w.size-is
          (surveying_same fits c.loop-i.invariant c.loop-i-test.true c.if-t-last.false w.if-t-last-2.false)
    ]

pub window_size-requires : goal.window_size-requires
window_size-requires c = tt

pub overflow_add-result : goal.overflow_add-result
overflow_add-result c = omega (arith, c.loop-i.invariant, c.window_size.ensures)

pub returns : goal.returns
returns c = rw c.window_size.ensures (surveying_all (λ i. (c.type_inv.types i).fits) c.loop-i.invariant c.loop-i-test.false)
