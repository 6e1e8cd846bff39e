-- `put_key` meets its contract: the labels passed are written from `end` on, and the key of the others ends there.
use Prim.Native.Nat.{◌<◌}
use borrow.Author.Tests.{eqb-true}
use native.Mathlib.Omega.{arith}
use Rattle.name.proofs.LabelSteps.{inside}
use Rattle.tokey.proofs.PutKeys.{passing_none, passing_all}
use Rattle.tokey.proofs.PutKeys.{passing_within, passing_some, passing_room, passing_plain, passing_less, passing_next}
use Rattle.tokey.proofs.put_key.Goals as goal

pub loop-end-init : goal.loop-end-init
loop-end-init c = passing_none c.requires.0 c.requires.1 c.requires.2

pub overflow_add-from : goal.overflow_add-from
overflow_add-from c = omega (arith, inside c.loop-end.invariant.standing)

pub bounds-name-p : goal.bounds-name-p
bounds-name-p c = inside c.loop-end.invariant.standing

pub overflow_add-end : goal.overflow_add-end
overflow_add-end c = omega (arith, inside c.loop-end.invariant.standing, c.loop-end.invariant.written.ends, c.requires.2)

pub put_label-end-requires-clause-n_in_bounds : goal.put_label-end-requires-clause-n_in_bounds
put_label-end-requires-clause-n_in_bounds c = let more : 0 < c.loop-end.end = omega arith in
    let p = c.loop-end.invariant in (omega (arith, passing_within p more), passing_some p more, passing_room p more)

pub put_label-end-requires-clause-n_value : goal.put_label-end-requires-clause-n_value
put_label-end-requires-clause-n_value c = let more : 0 < c.loop-end.end = omega arith in
    let p = c.loop-end.invariant in λ e. passing_plain p more (eqb-true _ _ e)

pub overflow_add-p : goal.overflow_add-p
overflow_add-p c = let more : 0 < c.loop-end.end = omega arith in
    omega (arith, passing_within c.loop-end.invariant more)

pub loop-end-smaller : goal.loop-end-smaller
loop-end-smaller c = let more : 0 < c.loop-end.end = omega arith in
    passing_less c.loop-end.invariant more c.put_label-end.ensures

pub loop-end-preserved : goal.loop-end-preserved
loop-end-preserved c = let more : 0 < c.loop-end.end = omega arith in
    passing_next c.loop-end.invariant more c.put_label-end.ensures

pub returns : goal.returns
returns c = passing_all c.loop-end.invariant (omega arith)
