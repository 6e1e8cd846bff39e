-- `walk` meets its contract: reading has come to the place p, where the octet o stands (`Stands`), and the places noted are those of the
-- last three labels that end at or before the cut (`Walking`).
use native.Mathlib.Omega.{arith}
use Prim.Native.Nat.{◌+◌}
use Rattle.checks.proofs.Marks.{Walking, walking_start, walking_more, walking_no_more}
use Rattle.checks.proofs.Standing.{stands_within, stands_same, stands_next, walking_large, walking_past}
use Rattle.checks.proofs.Standing.{ended_left_over, ended_none, ended_last}
use Rattle.checks.proofs.walking.walk.Goals.{else-e-cut, then-e-cut}
use Rattle.checks.proofs.walking.walk.Goals as goal

pub loop-o-init : goal.loop-o-init
loop-o-init c = (walking_start _ _, record { octet = c.first_octet-o.ensures })

pub returns-then-o-gt-MAX_LABEL : goal.returns-then-o-gt-MAX_LABEL
returns-then-o-gt-MAX_LABEL c = let i = c.loop-o.invariant in walking_large i.0 i.1 (omega arith)

pub overflow_add-q : goal.overflow_add-q
overflow_add-q c = omega (arith, stands_within c.loop-o.invariant.1 c.if-o-gt-MAX_LABEL.false)

pub overflow_add-e : goal.overflow_add-e
overflow_add-e c = omega (arith, stands_within c.loop-o.invariant.1 c.if-o-gt-MAX_LABEL.false)

pub returns-then-name-e : goal.returns-then-name-e
returns-then-name-e c = walking_past c.loop-o.invariant.0 c.loop-o.invariant.1 c.requires (omega arith) c.if-o-gt-MAX_LABEL.false
    (omega arith)

pub loop-o-preserved : goal.loop-o-preserved
loop-o-preserved c = let walks_on : Walking c.args.name.now c.args.cut (c.loop-o.p + 1 + c.loop-o.o)
    c.if-e-cut.one c.if-e-cut.two c.if-e-cut.three c.if-e-cut.end = let pre = c.requires in let w = c.loop-o.invariant.0 in
    let t = c.loop-o.invariant.1 in let small = c.if-o-gt-MAX_LABEL.false in let e = stands_same t small in let h = stands_within t small in
    elim c.if-e-cut.branch [
      | then-e-cut v ↦ rw (v.one-is, v.two-is, v.three-is, v.end-is)
          (rw e at (walking_more w h pre (λ z. omega arith) (omega arith) (omega (arith, v.if-e-cut.true))))
      | else-e-cut v ↦ rw (v.one-is, v.two-is, v.three-is, v.end-is)
          (rw e at (walking_no_more w h pre (λ z. omega arith) (omega arith) (omega (arith, v.if-e-cut.false))))
    ] in
    (walks_on, stands_next _ _ _ (omega arith))

pub overflow_add-p : goal.overflow_add-p
overflow_add-p c = omega (arith, stands_within c.loop-o.invariant.1 (omega arith))

pub returns-then-p-name : goal.returns-then-p-name
returns-then-p-name c = let i = c.loop-o.invariant in ended_left_over i.0 i.1 c.loop-o-test.false (omega arith)

pub returns-then-end-cut : goal.returns-then-end-cut
returns-then-end-cut c = let i = c.loop-o.invariant in
    rw c.place_for.ensures
    (ended_last i.0 i.1 c.loop-o-test.false c.requires c.if-p-name.false c.if-end-cut.true
    c.args.depth)

pub returns : goal.returns
returns c = let i = c.loop-o.invariant in ended_none i.0 i.1 c.loop-o-test.false c.if-end-cut.false
