-- `scan` meets its contract: reading has come to the place p (`At`), and of a whole name the place that is noted is near (`Passing`).
use borrow.Author.Rules.{rules}
use native.Mathlib.Omega.{arith}
use mathlib.Core.Path.{sym, ◌∙◌}
use Rattle.name.proofs.Whole.{broken}
use Rattle.name.proofs.ReadSteps.{at_start, left_over, whole, bad_length, too_long, at_next}
use Rattle.enclosing.proofs.Advancing.{passing_start, passing_far, passing_near}
use Rattle.enclosing.proofs.forks.scan.Goals as goal

pub loop-p-init : goal.loop-p-init
loop-p-init c = (search rules, at_start _, passing_start _)

pub returns-then-q-s : goal.returns-then-q-s
returns-then-q-s c = let i = c.loop-p.invariant in
    λ e. broken (left_over _ _ i.1 (omega arith) c.if-o-eq0.true (omega arith) ∙ e)

pub returns-then-o-eq0 : goal.returns-then-o-eq0
returns-then-o-eq0 c = let i = c.loop-p.invariant in
    (i.2 (sym (whole _ _ i.1 (omega arith) c.if-o-eq0.true (omega arith)))).nears

pub returns-then-o-gt-MAX_LABEL : goal.returns-then-o-gt-MAX_LABEL
returns-then-o-gt-MAX_LABEL c = let i = c.loop-p.invariant in λ e. broken (bad_length _ _ i.1 (omega arith) c.if-o-gt-MAX_LABEL.true ∙ e)

pub returns-then-e-ge-MAX_LEN : goal.returns-then-e-ge-MAX_LEN
returns-then-e-ge-MAX_LEN c = let i = c.loop-p.invariant in
    λ e. broken (too_long _ _ i.1 (omega arith) c.if-o-eq0.false c.if-o-gt-MAX_LABEL.false (omega arith) ∙ e)

pub loop-p-preserved-then-most-s : goal.loop-p-preserved-then-most-s
loop-p-preserved-then-most-s c = let i = c.loop-p.invariant in
    let some = c.if-o-eq0.false in (
      omega arith,
      at_next _ _ i.1 (omega arith) some c.if-o-gt-MAX_LABEL.false (omega arith),
      λ e. passing_far some (i.2 e) c.if-most-s.true,
    )

pub loop-p-preserved : goal.loop-p-preserved
loop-p-preserved c = let i = c.loop-p.invariant in
    let some = c.if-o-eq0.false in (
      omega arith,
      at_next _ _ i.1 (omega arith) some c.if-o-gt-MAX_LABEL.false (omega arith),
      λ e. passing_near some (i.2 e),
    )

pub returns : goal.returns
returns c = λ e. broken (sym (c.loop-p.invariant.1.1 c.loop-p-test.false) ∙ e)
