-- What `climb` and `try_label` find is the label that the climb changes (Planning).
use Rattle.std.proofs.Common.{ℕ, List, arith, ap, inl, inr, length}
use Rattle.facts.proofs.Parts.{part_rest}
use Rattle.name.proofs.LabelSteps.{inside}
use Rattle.checks.specs.Private.Climbs.{between, past}
use Rattle.climbing.proofs.Planning.{finds_apex, label_within, fewer_labels, parent_tries, finds_longer, finds_higher, climb_on}
use Rattle.climbing.proofs.+climb_try_label.Goals.{try_label-else-size-lt-MAX_LABEL, try_label-then-size-lt-MAX_LABEL+else-name-at}
use Rattle.climbing.proofs.+climb_try_label.Goals as goal

pub climb-returns-then-cut-at : goal.climb-returns-then-cut-at
climb-returns-then-cut-at t c = finds_apex c.requires (omega arith)

pub climb-try_label-requires : goal.climb-try_label-requires
climb-try_label-requires t c = (omega (arith, c.decreases), (c.requires, omega arith))

pub try_label-bounds-name-at : goal.try_label-bounds-name-at
try_label-bounds-name-at t c = let p = c.requires in omega (arith, label_within p.0 p.1)

pub try_label-overflow_sub-name : goal.try_label-overflow_sub-name
try_label-overflow_sub-name t c = let p = c.requires in omega (arith, label_within p.0 p.1)

pub try_label-overflow_add-result : goal.try_label-overflow_add-result
try_label-overflow_add-result t c = let p = c.requires.0 in omega (arith, inside p.climbs.stands, p.climbs.fits, p.most)

pub try_label-returns-then-name-at : goal.try_label-returns-then-name-at
try_label-returns-then-name-at t c = let p = c.requires in finds_longer p.0 p.1 (omega arith) c.if-name-at.true

pub try_label-last_below-k-requires : goal.try_label-last_below-k-requires
try_label-last_below-k-requires t c = let p = c.requires in omega (arith, label_within p.0 p.1)

pub try_label-returns-then-k-gt0 : goal.try_label-returns-then-k-gt0
try_label-returns-then-k-gt0 t c = let p = c.requires in
    finds_higher p.0 p.1 (elim c.if-size-lt-MAX_LABEL.branch [
      | try_label-then-size-lt-MAX_LABEL+else-name-at w ↦ inr (omega (arith, w.if-name-at.false))
      | try_label-else-size-lt-MAX_LABEL w ↦ inl (omega (arith, w.if-size-lt-MAX_LABEL.false))
    ]) _ c.last_below-k.ensures c.if-k-gt0.true

pub try_label-climb-requires : goal.try_label-climb-requires
try_label-climb-requires t c = let p = c.requires in
    let name = c.args.name.now in (
      omega (
        arith,
        fewer_labels p.0 p.1,
        c.decreases,
        ap (λ (l : List ℕ). length (between l (past name c.args.at) c.args.cut)) (part_rest name 0),
      ),
      rw (part_rest name 0) (parent_tries p.0 p.1),
    )

pub try_label-returns : goal.try_label-returns
try_label-returns t c = let p = c.requires in
    rw (climb_on p.0 p.1 (elim c.if-size-lt-MAX_LABEL.branch [
      | try_label-then-size-lt-MAX_LABEL+else-name-at w ↦ inr (omega (arith, w.if-name-at.false))
      | try_label-else-size-lt-MAX_LABEL w ↦ inl (omega (arith, w.if-size-lt-MAX_LABEL.false))
    ]) _ c.last_below-k.ensures c.if-k-gt0.false)
    (rw (part_rest c.args.name.now 0) at c.climb.ensures)
