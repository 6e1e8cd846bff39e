-- `put_escaped` meets its contract: the labels passed are written up to `at`, and the text of the others goes on there.
use Prim.Native.Nat.{◌+◌}
use native.Mathlib.Omega.{arith}
use lib.ListN.{length, get_or}
use Rattle.name.proofs.LabelSteps.{inside}
use Rattle.space.specs.Private.Put.{folded_part}
use Rattle.space.specs.Private.Written.{Written}
use Rattle.order.specs.Order.{folded_labels}
use Rattle.text.specs.WriteText.{label_text, text_of}
use Rattle.text.proofs.TextSteps.{label_within}
use Rattle.totext.proofs.PutTexts.{passing_room, passing_all, label_size_lem}
use Rattle.totext.proofs.Roomy.{roomy_none, roomy_last, roomy_more, roomy_end, roomy_label, roomy_next}
use Rattle.totext.proofs.escaped.put_escaped.Goals.{then-e-name, else-e-name}
use Rattle.totext.proofs.escaped.put_escaped.Goals as goal

pub loop-p-init : goal.loop-p-init
loop-p-init c = roomy_none _ _ c.requires.name_value.0 c.requires.name_value.1 c.requires.name_value.2

pub overflow_add-p : goal.overflow_add-p
overflow_add-p c = omega (arith, inside c.loop-p.invariant.passing.standing)

pub overflow_add-e : goal.overflow_add-e
overflow_add-e c = omega (arith, label_within _ _ c.loop-p.invariant.passing.standing (omega arith))

pub overflow_add-e-in-loop-p : goal.overflow_add-e-in-loop-p
overflow_add-e-in-loop-p c = omega (arith, label_within _ _ c.loop-p.invariant.passing.standing (omega arith))

pub put_label-end-requires-clause-n_in_bounds : goal.put_label-end-requires-clause-n_in_bounds
put_label-end-requires-clause-n_in_bounds c = (
  omega (arith, label_within _ _ c.loop-p.invariant.passing.standing (omega arith)),
  omega (arith, roomy_more c.loop-p.invariant (omega arith) (omega arith)),
)

pub put_end-end-requires-clause-le_n : goal.put_end-end-requires-clause-le_n
put_end-end-requires-clause-le_n c = (
  omega (arith, label_size_lem _ _ c.loop-p.invariant.passing.standing (omega arith)),
  omega (arith, label_within _ _ c.loop-p.invariant.passing.standing (omega arith)),
  omega (arith, roomy_last c.loop-p.invariant (omega arith)),
)

pub bounds-space-end : goal.bounds-space-end
bounds-space-end c = let put : let s = c.args.name.now in let p = c.loop-p.p in
    Written c.loop-p.space c.loop-p.at c.loop-p.at (label_text (folded_part s (p + 1) (get_or s p 0))) c.if-e-name.end
    (length (text_of (folded_labels s))) c.if-e-name.space = let w = c.loop-p.invariant in
    elim c.if-e-name.branch [
      | then-e-name k ↦ rw (k.space-is, k.end-is) (roomy_label w (omega arith) k.if-e-name.true k.put_label-end.ensures)
      | else-e-name k ↦ rw (k.space-is, k.end-is) (roomy_end w (omega arith) k.put_end-end.ensures)
    ] in
    let w = put in
    omega (arith, w.ends, w.room, w.size, passing_room c.loop-p.invariant.passing (omega arith))

pub overflow_add-at : goal.overflow_add-at
overflow_add-at c = let put : let s = c.args.name.now in let p = c.loop-p.p in
    Written c.loop-p.space c.loop-p.at c.loop-p.at (label_text (folded_part s (p + 1) (get_or s p 0))) c.if-e-name.end
    (length (text_of (folded_labels s))) c.if-e-name.space = let w = c.loop-p.invariant in
    elim c.if-e-name.branch [
      | then-e-name k ↦ rw (k.space-is, k.end-is) (roomy_label w (omega arith) k.if-e-name.true k.put_label-end.ensures)
      | else-e-name k ↦ rw (k.space-is, k.end-is) (roomy_end w (omega arith) k.put_end-end.ensures)
    ] in
    let w = put in
    omega (arith, w.ends, w.room, w.size, passing_room c.loop-p.invariant.passing (omega arith))

pub loop-p-preserved : goal.loop-p-preserved
loop-p-preserved c = let put : let s = c.args.name.now in let p = c.loop-p.p in
    Written c.loop-p.space c.loop-p.at c.loop-p.at (label_text (folded_part s (p + 1) (get_or s p 0))) c.if-e-name.end
    (length (text_of (folded_labels s))) c.if-e-name.space = let w = c.loop-p.invariant in
    elim c.if-e-name.branch [
      | then-e-name k ↦ rw (k.space-is, k.end-is) (roomy_label w (omega arith) k.if-e-name.true k.put_label-end.ensures)
      | else-e-name k ↦ rw (k.space-is, k.end-is) (roomy_end w (omega arith) k.put_end-end.ensures)
    ] in
    roomy_next c.loop-p.invariant (omega arith) put

pub returns : goal.returns
returns c = passing_all c.loop-p.invariant.passing (omega arith)
