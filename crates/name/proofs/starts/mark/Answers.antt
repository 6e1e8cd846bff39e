-- `mark` meets its contract: reading has come to the place p (`At`), and the places of the n labels before it are noted (`Noting`).
use borrow.Author.Rules.{rules}
use native.Mathlib.Omega.{arith}
use mathlib.Core.Path.{sym}
use Rattle.name.proofs.ReadSteps.{at_start, left_over, whole, bad_length, too_long, at_next}
use Rattle.name.proofs.MarkSteps.{noting_none, noting_more, noting_all, noting_left_over, noting_cut}
use Rattle.name.proofs.starts.mark.Goals as goal

pub loop-p-init : goal.loop-p-init
loop-p-init c = (search rules, at_start _, noting_none _ _)

pub returns-then-q-octets : goal.returns-then-q-octets
returns-then-q-octets c = let i = c.loop-p.invariant in
    record {
      broken = sym (search (left_over, arith));
      stored = noting_left_over _ _ _ _ _ i.2 (omega arith) c.if-o-eq0.true;
    }

pub returns-then-o-eq0 : goal.returns-then-o-eq0
returns-then-o-eq0 c = let i = c.loop-p.invariant in
    noting_all _ _ _ _ _ i.2 (omega arith) c.if-o-eq0.true (sym (search (whole, arith)))

pub returns-then-o-gt-MAX_LABEL : goal.returns-then-o-gt-MAX_LABEL
returns-then-o-gt-MAX_LABEL c = record { broken = sym (search (bad_length, arith)); stored = c.loop-p.invariant.2.stored }

pub returns-then-e-ge-MAX_LEN : goal.returns-then-e-ge-MAX_LEN
returns-then-e-ge-MAX_LEN c = record { broken = sym (search (too_long, arith)); stored = c.loop-p.invariant.2.stored }

pub bounds-places-n : goal.bounds-places-n
bounds-places-n c = omega (arith, c.loop-p.invariant.2.few)

pub overflow_add-n : goal.overflow_add-n
overflow_add-n c = omega (arith, c.loop-p.invariant.2.few)

pub loop-p-preserved : goal.loop-p-preserved
loop-p-preserved c = let l = c.loop-p in
    let some = c.if-o-eq0.false in (
      omega arith,
      at_next _ _ l.invariant.1 (omega arith) some c.if-o-gt-MAX_LABEL.false (omega arith),
      noting_more _ _ _ _ _ l.invariant.2 (omega arith) some,
    )

pub returns : goal.returns
returns c = let i = c.loop-p.invariant in
    record { broken = i.1.1 c.loop-p-test.false; stored = noting_cut _ _ _ _ _ i.2 c.loop-p-test.false }
