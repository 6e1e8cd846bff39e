-- `put_first` meets its contract: the octets of a short plan, or the rest, what stands before the label, and the label, are the plan's
-- octets (ShortWriting, PlanWriting).
use Prim.Native.Nat.{◌+◌, ◌-◌, ◌≤◌}
use native.Mathlib.Omega.{arith}
use lib.ListN.{length}
use Rattle.writing.proofs.Preparing.{prepared_padding}
use Rattle.writing.proofs.PlanWriting.{label_some, label_least, label_most, lies_unlabelled, lies_labelled}
use Rattle.writing.proofs.ShortWriting.{short_fits, lies_short}
use Rattle.placing.proofs.put_first.Goals as goal

pub overflow_add-start : goal.overflow_add-start
overflow_add-start c = let p = c.args.plan in
    omega (arith, c.label_len.ensures, label_most p.kept p.tail, c.requires.0.front_few, c.requires.0.label_few)

pub overflow_add-end : goal.overflow_add-end
overflow_add-end c = let p = c.args.plan in
    omega (arith, c.label_len.ensures, label_most p.kept p.tail, c.requires.0.front_few, c.requires.0.label_few)

pub overflow_sub-name : goal.overflow_sub-name
overflow_sub-name c = omega (arith, c.requires.0.kept_within)

pub is_short-requires : goal.is_short-requires
is_short-requires c = omega (arith, c.requires.0.front_few, c.requires.0.label_few)

pub put_short-requires : goal.put_short-requires
put_short-requires c = let room : c.args.plan.front + c.label_len.result + (length c.args.name.now - c.args.plan.rest)
    ≤ length c.args.space.now = omega (arith, c.requires.1, c.label_len.ensures) in
    short_fits c.requires.0 c.args.space.now _ c.label_len.ensures (c.is_short.ensures c.if-is_short.true) room

pub returns-then-is_short : goal.returns-then-is_short
returns-then-is_short c = let room : c.args.plan.front + c.label_len.result + (length c.args.name.now - c.args.plan.rest)
    ≤ length c.args.space.now = omega (arith, c.requires.1, c.label_len.ensures) in
    lies_short c.requires.0 _ _ c.label_len.ensures (c.is_short.ensures c.if-is_short.true) room _ c.put_short.ensures

pub put_front-requires : goal.put_front-requires
put_front-requires c = let room : c.args.plan.front + c.label_len.result + (length c.args.name.now - c.args.plan.rest)
    ≤ length c.args.space.now = omega (arith, c.requires.1, c.label_len.ensures) in (
      c.requires.0.front_few,
      c.requires.0.front_labels,
      omega (arith, c.requires.0.label_few),
      omega (arith, c.label_len.ensures, label_least c.args.plan.kept c.args.plan.tail),
      omega (arith, room, c.put_end.auto.d),
    )

pub put_label-requires : goal.put_label-requires
put_label-requires c = let room : c.args.plan.front + c.label_len.result + (length c.args.name.now - c.args.plan.rest)
    ≤ length c.args.space.now = omega (arith, c.requires.1, c.label_len.ensures) in
    let size = label_some c.args.plan.kept c.args.plan.tail c.if-tail-gt0.true in (
      c.requires.0.kept_within,
      omega (arith, room, c.label_len.ensures, size, c.put_end.auto.d, c.put_front.auto.d),
      omega arith,
      c.requires.0.label_few,
      prepared_padding c.put_front.ensures c.args.plan.kept (omega (arith, c.label_len.ensures, size)),
    )

pub returns-then-tail-gt0 : goal.returns-then-tail-gt0
returns-then-tail-gt0 c = let room : c.args.plan.front + c.label_len.result + (length c.args.name.now - c.args.plan.rest)
    ≤ length c.args.space.now = omega (arith, c.requires.1, c.label_len.ensures) in
    lies_labelled _ c.requires.0 _ _ c.label_len.ensures room c.put_end.ensures c.put_front.ensures (omega arith)
    c.put_label.ensures

pub returns-else-tail-gt0 : goal.returns-else-tail-gt0
returns-else-tail-gt0 c = let room : c.args.plan.front + c.label_len.result + (length c.args.name.now - c.args.plan.rest)
    ≤ length c.args.space.now = omega (arith, c.requires.1, c.label_len.ensures) in
    lies_unlabelled _ c.requires.0 _ _ c.label_len.ensures room c.put_end.ensures c.put_front.ensures c.if-tail-gt0.false
