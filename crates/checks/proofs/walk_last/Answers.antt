-- `walk_last` meets its contract: as in `walk`, and the second and the third place are some that it does not note.
use native.Mathlib.Omega.{arith}
use Prim.Native.Nat.{◌+◌}
use Rattle.checks.specs.declared.Depth.TheVariants.{One}
use Rattle.checks.proofs.Marks.{WalkingLast, last_start, last_more, last_no_more}
use Rattle.checks.proofs.Standing.{stands_within, stands_same, stands_next, walking_large, walking_past}
use Rattle.checks.proofs.Standing.{ended_left_over, ended_none, ended_last}
use Rattle.checks.proofs.walk_last.Goals.{else-e-cut, then-e-cut}
use Rattle.checks.proofs.walk_last.Goals as goal

pub loop-o-init : goal.loop-o-init
loop-o-init c = (last_start _ _, record { octet = c.first_octet-o.ensures })

pub returns-then-o-gt-MAX_LABEL : goal.returns-then-o-gt-MAX_LABEL
returns-then-o-gt-MAX_LABEL c = walking_large c.loop-o.invariant.0.walks c.loop-o.invariant.1 (omega arith)

pub overflow_add-q : goal.overflow_add-q
overflow_add-q c = omega (arith, stands_within c.loop-o.invariant.1 c.if-o-gt-MAX_LABEL.false)

pub overflow_add-e : goal.overflow_add-e
overflow_add-e c = omega (arith, stands_within c.loop-o.invariant.1 c.if-o-gt-MAX_LABEL.false)

pub returns-then-name-e : goal.returns-then-name-e
returns-then-name-e c = walking_past c.loop-o.invariant.0.walks c.loop-o.invariant.1 c.requires (omega arith) c.if-o-gt-MAX_LABEL.false
    (omega arith)

pub loop-o-preserved : goal.loop-o-preserved
loop-o-preserved c = let walks_on : WalkingLast c.args.name.now c.args.cut (c.loop-o.p + 1 + c.loop-o.o) c.if-e-cut.at c.if-e-cut.end =
    let pre = c.requires in let w = c.loop-o.invariant.0 in
    let t = c.loop-o.invariant.1 in let small = c.if-o-gt-MAX_LABEL.false in let e = stands_same t small in let h = stands_within t small in
    elim c.if-e-cut.branch [
      | then-e-cut v ↦ rw (v.at-is, v.end-is)
          (rw e at (last_more w h pre (λ z. omega arith) (omega arith) (omega (arith, v.if-e-cut.true))))
      | else-e-cut v ↦ rw (v.at-is, v.end-is)
          (rw e at (last_no_more w h pre (λ z. omega arith) (omega arith) (omega (arith, v.if-e-cut.false))))
    ] in
    (walks_on, stands_next _ _ _ (omega arith))

pub overflow_add-p : goal.overflow_add-p
overflow_add-p c = omega (arith, stands_within c.loop-o.invariant.1 (omega arith))

pub returns-then-p-name : goal.returns-then-p-name
returns-then-p-name c = let i = c.loop-o.invariant in
    ended_left_over i.0.walks i.1 c.loop-o-test.false (omega arith)

pub returns-then-end-cut : goal.returns-then-end-cut
returns-then-end-cut c = let i = c.loop-o.invariant in
    ended_last i.0.walks i.1 c.loop-o-test.false c.requires c.if-p-name.false c.if-end-cut.true One

pub returns : goal.returns
returns c = let i = c.loop-o.invariant in
    ended_none i.0.walks i.1 c.loop-o-test.false c.if-end-cut.false
