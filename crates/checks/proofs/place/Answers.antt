-- `place` meets its contract: each test that fails rules an admitted name out, and past them the walk decides (`places_walked`).
use native.Mathlib.Omega.{arith}
use mathlib.Core.Path.{sym, ◌∙◌}
use Rattle.facts.proofs.Parts.{part_rest}
use Rattle.checks.proofs.Placing.{places_none, short_out, unlike_out, places_walked}
use Rattle.checks.proofs.place.Goals as goal

pub returns-then-most-gt-MAX_LEN : goal.returns-then-most-gt-MAX_LEN
returns-then-most-gt-MAX_LEN c = places_none _ _ _ (λ a. omega (arith, a.most, c.if-most-gt-MAX_LEN.true))

pub returns-then-most-name : goal.returns-then-most-name
returns-then-most-name c = places_none _ _ _ (λ a. omega (arith, a.name_fits, c.if-most-name.true))

pub returns-then-name-apex : goal.returns-then-name-apex
returns-then-name-apex c = places_none _ _ _ (short_out _ _ _ c.if-name-apex.true)

pub returns-then-most-apex-lt2 : goal.returns-then-most-apex-lt2
returns-then-most-apex-lt2 c = places_none _ _ _ (λ a. omega (arith, a.apex_fits, c.if-most-apex-lt2.true))

pub returns-then-same_folded : goal.returns-then-same_folded
returns-then-same_folded c = let a = c.args in
    places_walked _ _ _ c.if-name-apex.false (omega arith) c.if-most-name.false (omega arith)
    (sym c.if-same_folded.true ∙ rw (part_rest a.name.now 0, part_rest a.apex.now 0) at c.same_folded.ensures)
    c.walk_for.ensures

pub returns : goal.returns
returns c = let a = c.args in
    places_none _ _ _
    (unlike_out _ _ _ c.if-name-apex.false
    (sym c.if-same_folded.false ∙ rw (part_rest a.name.now 0, part_rest a.apex.now 0) at c.same_folded.ensures))
