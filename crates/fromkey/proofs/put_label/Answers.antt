-- Octet by octet the label is copied out of its code (`Putting`).
use native.Mathlib.Omega.{arith}
use Prim.Native.Nat.{◌+◌, ◌<◌, ◌≤◌}
use lib.ListN.{length, get_or}
use Rattle.fromkey.proofs.ReadLabels.{putting_all, putting_inside}
use Rattle.fromkey.proofs.ReadLabels.{putting_escaped, putting_escape, putting_octet}
use Rattle.fromkey.proofs.put_label.Goals.{else-o-eq1, then-o-eq1}
use Rattle.fromkey.proofs.put_label.Goals as goal

pub bounds-key-p : goal.bounds-key-p
bounds-key-p c = putting_inside c.requires.label_at c.loop-i.invariant (omega arith)

pub overflow_add-p : goal.overflow_add-p
overflow_add-p c = omega (arith, putting_inside c.requires.label_at c.loop-i.invariant (omega arith))

pub bounds-key-p-then-o-eq1 : goal.bounds-key-p-then-o-eq1
bounds-key-p-then-o-eq1 c = let escaped : (c.loop-i.p + 1 < length c.args.key.now) × (1 ≤ get_or c.args.key.now (c.loop-i.p + 1) 0) =
    putting_escaped c.requires.label_at c.loop-i.invariant (omega arith) c.if-o-eq1.true in
    escaped.0

pub overflow_sub-d : goal.overflow_sub-d
overflow_sub-d c = let escaped : (c.loop-i.p + 1 < length c.args.key.now) × (1 ≤ get_or c.args.key.now (c.loop-i.p + 1) 0) =
    putting_escaped c.requires.label_at c.loop-i.invariant (omega arith) c.if-o-eq1.true in
    escaped.1

pub loop-i-preserved : goal.loop-i-preserved
loop-i-preserved c = elim c.if-o-eq1.branch [
  | then-o-eq1 w ↦ rw (w.d-is, w.p-is) (putting_escape c.requires.label_at c.loop-i.invariant (omega arith) w.if-o-eq1.true)
  | else-o-eq1 w ↦ rw (w.d-is, w.p-is) (putting_octet c.requires.label_at c.loop-i.invariant (omega arith) w.if-o-eq1.false)
]

pub returns : goal.returns
returns c = putting_all c.requires.label_at c.loop-i.invariant c.loop-i-test.false
