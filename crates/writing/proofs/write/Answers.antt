-- `write` meets its contract: the octets of a short plan, or the rest, what stands before the label, and the label, are the plan's octets
-- (ShortWriting, PlanWriting).
use native.Mathlib.Omega.{arith}
use Rattle.writing.proofs.Preparing.{prepared_padding}
use Rattle.writing.proofs.PlanWriting.{label_some, label_least, label_most, fills_none, fills_unlabelled, fills_labelled}
use Rattle.writing.proofs.ShortWriting.{short_fits, fills_short}
use Rattle.writing.proofs.write.Goals as goal

pub overflow_add-start : goal.overflow_add-start
overflow_add-start c = let p = c.args.plan in
    omega (arith, c.label_len.ensures, label_most p.kept p.tail, c.requires.front_few, c.requires.label_few)

pub overflow_add-end : goal.overflow_add-end
overflow_add-end c = let p = c.args.plan in
    omega (arith, c.label_len.ensures, label_most p.kept p.tail, c.requires.front_few, c.requires.label_few)

pub returns-then-space-end : goal.returns-then-space-end
returns-then-space-end c = fills_none _ c.requires _ _ c.label_len.ensures c.if-space-end.true

pub overflow_sub-name : goal.overflow_sub-name
overflow_sub-name c = omega (arith, c.requires.kept_within)

pub is_short-requires : goal.is_short-requires
is_short-requires c = omega (arith, c.requires.front_few, c.requires.label_few)

pub put_short-requires : goal.put_short-requires
put_short-requires c =
    short_fits c.requires c.args.space.now _ c.label_len.ensures (c.is_short.ensures c.if-is_short.true) c.if-space-end.false

pub returns-then-is_short : goal.returns-then-is_short
returns-then-is_short c =
    fills_short c.requires _ _ c.label_len.ensures (c.is_short.ensures c.if-is_short.true) c.if-space-end.false _ c.put_short.ensures

pub put_front-requires : goal.put_front-requires
put_front-requires c = (
  c.requires.front_few,
  c.requires.front_labels,
  omega (arith, c.requires.label_few),
  omega (arith, c.label_len.ensures, label_least c.args.plan.kept c.args.plan.tail),
  omega (arith, c.if-space-end.false, c.put_end.auto.d),
)

pub put_label-requires : goal.put_label-requires
put_label-requires c = let size = label_some c.args.plan.kept c.args.plan.tail c.if-tail-gt0.true in (
  c.requires.kept_within,
  omega (arith, c.if-space-end.false, c.label_len.ensures, size, c.put_end.auto.d, c.put_front.auto.d),
  omega arith,
  c.requires.label_few,
  prepared_padding c.put_front.ensures c.args.plan.kept (omega (arith, c.label_len.ensures, size)),
)

pub returns-then-tail-gt0 : goal.returns-then-tail-gt0
returns-then-tail-gt0 c =
    fills_labelled _ c.requires _ _ c.label_len.ensures c.if-space-end.false c.put_end.ensures c.put_front.ensures (omega arith)
    c.put_label.ensures

pub returns-else-tail-gt0 : goal.returns-else-tail-gt0
returns-else-tail-gt0 c =
    fills_unlabelled _ c.requires _ _ c.label_len.ensures c.if-space-end.false c.put_end.ensures c.put_front.ensures c.if-tail-gt0.false
