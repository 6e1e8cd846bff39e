-- `denial` meets its contract: what the checks refuse is refused, then 18, and past them the gaps are those of the definition (`denied`).
use native.Mathlib.Omega.{arith}
use Prim.Native.Nat.{◌-◌, ◌<◌}
use mathlib.Core.Path.{◌≡◌, sym, ◌∙◌}
use mathlib.Core.Bool.{true}
use lib.ListN.{length, take, drop}
use Rattle.facts.proofs.Parts.{part_rest}
use Rattle.space.specs.Fold.{folded}
use Rattle.space.specs.Same.{same_octets}
use Rattle.checks.specs.Private.Boundary.{Passes}
use Rattle.checks.specs.Private.Walks.{Walks}
use Rattle.covering.specs.NextCloser.{next_closer_of}
use Rattle.covering.specs.Denials.{Proper}
use Rattle.gapnames.proofs.Written.{denies_refusal}
use Rattle.denial.proofs.CloserPlaces.{improper_unmarked, improper_unlike, closer_within, closer_is_proper, closer_begins}
use Rattle.denial.proofs.Refusing.{query_refused}
use Rattle.denial.proofs.Deciding.{no_encloser_short, no_encloser_improper, deniable, denied}
use Rattle.denial.proofs.denial.Goals as goal

pub returns-then-at-gt-MAX_LEN : goal.returns-then-at-gt-MAX_LEN
returns-then-at-gt-MAX_LEN c = let a = c.args in
    denies_refusal
    (query_refused a.apex.now a.limit a.query.now (c.place_both-at.ensures.refuses (omega arith)) _ c.why.result
    c.why.ensures)

pub returns-then-encloser-apex : goal.returns-then-encloser-apex
returns-then-encloser-apex c = let passed : Passes c.args.apex.now c.args.limit c.args.query.now
    (length c.args.query.now - length c.args.apex.now) = c.place_both-at.ensures.passes (omega (arith, c.if-at-gt-MAX_LEN.false)) in
    denies_refusal (no_encloser_short passed _ c.if-encloser-apex.true)

pub returns-then-at-eq-MAX_LEN : goal.returns-then-at-eq-MAX_LEN
returns-then-at-eq-MAX_LEN c = let passed : Passes c.args.apex.now c.args.limit c.args.query.now
    (length c.args.query.now - length c.args.apex.now) = c.place_both-at.ensures.passes (omega (arith, c.if-at-gt-MAX_LEN.false)) in
    let marked : Walks c.args.query.now c.mark_of-mark.result 1 c.place_both-at.result =
    c.place_both-at.ensures.marks (omega (arith, c.if-at-gt-MAX_LEN.false)) in
    let p = passed in
    denies_refusal
    (no_encloser_improper p _ (improper_unmarked c.mark_of-mark.ensures p.boundary.whole marked (omega arith)))

pub slice_bounds-closer-count : goal.slice_bounds-closer-count
slice_bounds-closer-count c = let passed : Passes c.args.apex.now c.args.limit c.args.query.now
    (length c.args.query.now - length c.args.apex.now) = c.place_both-at.ensures.passes (omega (arith, c.if-at-gt-MAX_LEN.false)) in
    let marked : Walks c.args.query.now c.mark_of-mark.result 1 c.place_both-at.result =
    c.place_both-at.ensures.marks (omega (arith, c.if-at-gt-MAX_LEN.false)) in
    let below : c.place_both-at.result < 255 = omega (arith, c.if-at-gt-MAX_LEN.false, c.if-at-eq-MAX_LEN.false) in
    closer_within c.mark_of-mark.ensures passed.boundary.whole marked below

pub deny-requires : goal.deny-requires
deny-requires c = let passed : Passes c.args.apex.now c.args.limit c.args.query.now (length c.args.query.now - length c.args.apex.now) =
    c.place_both-at.ensures.passes (omega (arith, c.if-at-gt-MAX_LEN.false)) in
    let marked : Walks c.args.query.now c.mark_of-mark.result 1 c.place_both-at.result =
    c.place_both-at.ensures.marks (omega (arith, c.if-at-gt-MAX_LEN.false)) in
    let below : c.place_both-at.result < 255 = omega (arith, c.if-at-gt-MAX_LEN.false, c.if-at-eq-MAX_LEN.false) in
    let like : let e = c.args.encloser.now in
    true ≡ same_octets (folded (take (length e) (drop c.mark_of-mark.result c.args.query.now))) (folded e) = let a = c.args in
    sym c.if-same_folded.true ∙ rw (part_rest a.query.now 0, part_rest a.encloser.now 0) at c.same_folded.ensures in
    let proper : Proper c.args.encloser.now c.args.query.now =
    closer_is_proper c.mark_of-mark.ensures passed.boundary.whole marked below like in
    let closer : take (length c.args.query.now - c.place_both-at.result) (drop c.place_both-at.result c.args.query.now)
    ≡ next_closer_of c.args.encloser.now c.args.query.now = part_rest c.args.query.now c.place_both-at.result
    ∙ closer_begins c.mark_of-mark.ensures passed.boundary.whole marked below like in
    deniable passed _ (λ i. omega (arith, c.type_inv.apex i))
    (λ i. omega (arith, c.type_inv.query i)) (λ i. omega (arith, c.type_inv.encloser i)) c.if-encloser-apex.false
    proper _ closer

pub returns-then-same_folded : goal.returns-then-same_folded
returns-then-same_folded c = let passed : Passes c.args.apex.now c.args.limit c.args.query.now
    (length c.args.query.now - length c.args.apex.now) = c.place_both-at.ensures.passes (omega (arith, c.if-at-gt-MAX_LEN.false)) in
    let marked : Walks c.args.query.now c.mark_of-mark.result 1 c.place_both-at.result =
    c.place_both-at.ensures.marks (omega (arith, c.if-at-gt-MAX_LEN.false)) in
    let below : c.place_both-at.result < 255 = omega (arith, c.if-at-gt-MAX_LEN.false, c.if-at-eq-MAX_LEN.false) in
    let like : let e = c.args.encloser.now in
    true ≡ same_octets (folded (take (length e) (drop c.mark_of-mark.result c.args.query.now))) (folded e) = let a = c.args in
    sym c.if-same_folded.true ∙ rw (part_rest a.query.now 0, part_rest a.encloser.now 0) at c.same_folded.ensures in
    let proper : Proper c.args.encloser.now c.args.query.now =
    closer_is_proper c.mark_of-mark.ensures passed.boundary.whole marked below like in
    let closer : take (length c.args.query.now - c.place_both-at.result) (drop c.place_both-at.result c.args.query.now)
    ≡ next_closer_of c.args.encloser.now c.args.query.now = part_rest c.args.query.now c.place_both-at.result
    ∙ closer_begins c.mark_of-mark.ensures passed.boundary.whole marked below like in
    rw c.told.ensures
    (denied passed _ (λ i. omega (arith, c.type_inv.apex i))
    (λ i. omega (arith, c.type_inv.query i)) (λ i. omega (arith, c.type_inv.encloser i)) c.if-encloser-apex.false
    proper _ closer c.deny.ensures)

pub returns : goal.returns
returns c = let passed : Passes c.args.apex.now c.args.limit c.args.query.now (length c.args.query.now - length c.args.apex.now) =
    c.place_both-at.ensures.passes (omega (arith, c.if-at-gt-MAX_LEN.false)) in
    let p = passed in let a = c.args in
    denies_refusal
    (no_encloser_improper p _
    (improper_unlike c.mark_of-mark.ensures p.boundary.whole
    (sym c.if-same_folded.false ∙ rw (part_rest a.query.now 0, part_rest a.encloser.now 0) at c.same_folded.ensures)))
