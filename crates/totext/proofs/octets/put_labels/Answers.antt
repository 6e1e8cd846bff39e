-- `put_labels` meets its contract: the labels passed are written up to `at`, and the text of the others goes on there.
use native.Mathlib.Omega.{arith}
use Rattle.name.proofs.LabelSteps.{inside}
use Rattle.text.proofs.TextSteps.{label_within}
use Rattle.totext.proofs.PutTexts.{passing_none, passing_room, passing_next, passing_all}
use Rattle.totext.proofs.octets.put_labels.Goals as goal

pub loop-p-init : goal.loop-p-init
loop-p-init c = passing_none _ _ c.requires.0 c.requires.1 c.requires.2

pub overflow_add-p : goal.overflow_add-p
overflow_add-p c = omega (arith, inside c.loop-p.invariant.standing)

pub put_octets-end-requires : goal.put_octets-end-requires
put_octets-end-requires c = (
  omega (arith, label_within _ _ c.loop-p.invariant.standing (omega arith)),
  omega (arith, passing_room c.loop-p.invariant (omega arith), c.requires.2, c.loop-p.invariant.partly.written.size),
)

pub bounds-space-end : goal.bounds-space-end
bounds-space-end c = let w = c.put_octets-end.ensures in
    omega (arith, w.ends, w.room, w.size, passing_room c.loop-p.invariant (omega arith))

pub overflow_add-at : goal.overflow_add-at
overflow_add-at c = omega (arith, c.put_octets-end.ensures.ends, passing_room c.loop-p.invariant (omega arith))

pub overflow_add-p-in-loop-p : goal.overflow_add-p-in-loop-p
overflow_add-p-in-loop-p c = omega (arith, label_within _ _ c.loop-p.invariant.standing (omega arith))

pub loop-p-preserved : goal.loop-p-preserved
loop-p-preserved c = let w = c.put_octets-end.ensures in
    passing_next c.loop-p.invariant (omega arith) w (omega (arith, w.ends, passing_room c.loop-p.invariant (omega arith)))

pub returns : goal.returns
returns c = (passing_all c.loop-p.invariant (omega arith)).1
