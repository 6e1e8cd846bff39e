-- `walk_both` meets its contract: as in `walk_last`, for the cut and for the mark (`WalkingBoth`).
use Prim.Native.Nat.{◌+◌}
use native.Mathlib.Omega.{arith}
use lib.ListN.{get_or}
use Rattle.checks.proofs.Marks.{WalkingLast, last_more, last_no_more}
use Rattle.checkcloser.proofs.BothMarks.{both_start, both_left_over, both_uncut, both_found, both_unmarked}
use Rattle.checkcloser.proofs.BothMarks.{both_bad_length, both_short}
use Rattle.checkcloser.proofs.walk_both.Goals.{else-e-mark, then-e-mark}
use Rattle.checkcloser.proofs.walk_both.Goals as goal

pub loop-p-init : goal.loop-p-init
loop-p-init c = both_start _ _ _

pub returns-then-q-name : goal.returns-then-q-name
returns-then-q-name c = both_left_over c.loop-p.invariant c.loop-p-test.true c.if-o-eq0.true c.if-q-name.true

pub returns-then-over-cut : goal.returns-then-over-cut
returns-then-over-cut c = both_uncut c.loop-p.invariant c.loop-p-test.true c.if-o-eq0.true (omega arith)

pub returns-then-end-mark : goal.returns-then-end-mark
returns-then-end-mark c = both_found c.loop-p.invariant c.loop-p-test.true c.requires c.if-o-eq0.true c.if-q-name.false
    (omega arith) c.if-end-mark.true

pub returns-then-o-eq0 : goal.returns-then-o-eq0
returns-then-o-eq0 c = both_unmarked c.loop-p.invariant c.loop-p-test.true c.requires c.if-o-eq0.true c.if-q-name.false
    (omega arith) c.if-end-mark.false

pub returns-then-o-gt-MAX_LABEL : goal.returns-then-o-gt-MAX_LABEL
returns-then-o-gt-MAX_LABEL c = both_bad_length c.loop-p.invariant c.loop-p-test.true c.if-o-gt-MAX_LABEL.true

pub loop-p-preserved-then-e-cut : goal.loop-p-preserved-then-e-cut
loop-p-preserved-then-e-cut c = let marks_on : let s = c.args.name.now in
    WalkingLast s c.args.mark (c.loop-p.p + 1 + get_or s c.loop-p.p 0) c.if-e-mark.at c.if-e-mark.end = let w = c.loop-p.invariant.marks in
    elim c.if-e-mark.branch [
      | then-e-mark v ↦ rw (v.at-is, v.end-is)
          (last_more w c.loop-p-test.true c.requires c.if-o-eq0.false c.if-o-gt-MAX_LABEL.false v.if-e-mark.true)
      | else-e-mark v ↦ rw (v.at-is, v.end-is)
          (last_no_more w c.loop-p-test.true c.requires c.if-o-eq0.false c.if-o-gt-MAX_LABEL.false v.if-e-mark.false)
    ] in
    record {
      place = c.loop-p.p;
      cuts = last_more c.loop-p.invariant.cuts c.loop-p-test.true c.requires c.if-o-eq0.false c.if-o-gt-MAX_LABEL.false c.if-e-cut.true;
      marks = marks_on;
    }

pub loop-p-preserved : goal.loop-p-preserved
loop-p-preserved c = let marks_on : let s = c.args.name.now in
    WalkingLast s c.args.mark (c.loop-p.p + 1 + get_or s c.loop-p.p 0) c.if-e-mark.at c.if-e-mark.end = let w = c.loop-p.invariant.marks in
    elim c.if-e-mark.branch [
      | then-e-mark v ↦ rw (v.at-is, v.end-is)
          (last_more w c.loop-p-test.true c.requires c.if-o-eq0.false c.if-o-gt-MAX_LABEL.false v.if-e-mark.true)
      | else-e-mark v ↦ rw (v.at-is, v.end-is)
          (last_no_more w c.loop-p-test.true c.requires c.if-o-eq0.false c.if-o-gt-MAX_LABEL.false v.if-e-mark.false)
    ] in
    record {
      place = c.loop-p.invariant.place;
      cuts = last_no_more c.loop-p.invariant.cuts c.loop-p-test.true c.requires c.if-o-eq0.false c.if-o-gt-MAX_LABEL.false c.if-e-cut.false;
      marks = marks_on;
    }

pub returns : goal.returns
returns c = both_short c.loop-p.invariant c.loop-p-test.false
