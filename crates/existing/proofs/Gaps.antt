-- No gap of a list that the check accepts denies a name that exists (`gap`): an owner is on one side of the gap, so a name above it that
-- the gap covers has that owner behind the gap, and with it the next name under itself.
use mathlib.Core.Path.{◌≡◌, refl, sym, ◌∙◌}
use mathlib.Core.List.Memᴰ
use mathlib.Core.List.{List, [], Memᴰ}
use mathlib.Core.Bool.{true, false, true≢false}
use mathlib.Core.Logic.{◌⊎◌, inl, inr}
use Prim.Native.Nat.{ℕ, ◌<◌}
use lib.ListN.{length, get_or}
use Rattle.facts.proofs.Booleans.{never_true}
use Rattle.std.specs.Prelude.{Ok}
use Rattle.name.specs.Wire.{reading_of}
use Rattle.name.proofs.Folding.{folded_whole, folded_idempotent}
use Rattle.space.specs.Fold.{folded}
use Rattle.order.specs.Order.{SortsBefore}
use Rattle.checks.specs.Under.{is_under}
use Rattle.checks.proofs.UnderLabels.{labels_under}
use Rattle.encloser.proofs.Gaps.{under_not_before}
use Rattle.covering.specs.Between.{covers_of}
use Rattle.covering.specs.Denials.{Covered}
use Rattle.covering.proofs.Between.{covers_between}
use Rattle.owners.specs.Lists.{Rises, none, next}
use Rattle.owners.specs.Gaps.{next_of}
use Rattle.owners.proofs.FoldedNames.{labels_folded, under_folded}
use Rattle.owners.proofs.Accepting.{Listed}
use Rattle.existing.specs.Existing.{Exists}
use Rattle.existing.specs.SignedAhead.{ListGap}
use Rattle.existing.proofs.Subtrees.{NotAfter, not_both, above_not_after, not_after_transitive, amid}
use Rattle.existing.proofs.Sides.{Ends, inner, last, ends, Sides, sides, at_member}

-- ---- the owners

-- what an owner is
pub record Owned (apex name : List ℕ) : Type 0 where
  pub whole : reading_of name ≡ Ok tt
  pub folds : folded name ≡ name
  pub under : is_under apex name ≡ true

rises_in : {In : List ℕ → Type 0} {before : List ℕ} {os : List (List ℕ)} → Rises In before os → (name : List ℕ) → Memᴰ name os
    → In name
rises_in none name m = absurd (Memᴰ.not-nil m)
rises_in {In} (next {names = os} o i s r) name m = go (Memᴰ.cases_cons m) (rises_in r name)
  where
    go : (name ≡ o) ⊎ Memᴰ name os → (Memᴰ name os → In name) → In name
    go (inl e) f = rw e i
    go (inr k) f = f k

module _ {apex : List ℕ} {limit : ℕ} {owners : List (List ℕ)} (va : reading_of apex ≡ Ok tt) (l : Listed apex limit owners) where
  pub owned : (name : List ℕ) → Memᴰ name owners → Owned apex name
  owned name m = go (Memᴰ.cases_cons (rw l.first at m))
    where
      go : (name ≡ folded apex) ⊎ Memᴰ name l.others → Owned apex name
      go (inl e) =
          rw e
          (record {
            whole = folded_whole apex va;
            folds = folded_idempotent apex;
            under = labels_under apex (folded apex) [] (labels_folded apex va);
          })
      go (inr k) = let t = rises_in l.rises name k in record { whole = t.whole; folds = t.folds; under = t.under }

  -- nothing of the zone is before the apex
  apex_first : (name : List ℕ) → is_under apex name ≡ true → SortsBefore name (folded apex) → ⊥
  apex_first name u h = under_not_before (folded apex) name (under_folded apex va name ∙ u) h

  -- ---- a gap

  module _ (i : ℕ) (h : i < length owners) where
    abbrev owner : List ℕ
    owner = get_or owners i []

    abbrev following : List ℕ
    following = next_of owners i

    -- a name of the zone that is not after the owner is not covered
    before_gap : (name : List ℕ) → is_under apex name ≡ true → Covered owner following name
        → NotAfter name owner → ⊥
    before_gap name u c n = go (ends l i h)
      where
        around : following ≡ folded apex → SortsBefore owner name ⊎ SortsBefore name following → ⊥
        around e (inl k) = not_both owner name k n
        around e (inr k) = apex_first name u (rw e at k)

        go : Ends l i h → ⊥
        go (inner g e s) = not_both owner name (c.between s).0 n
        go (last g e) =
            around e (c.around (λ k. apex_first owner (owned owner (at_member owners i [] h)).under (rw e at k)))

    pub no_owner : (name : List ℕ) → Memᴰ name owners → covers_of owner following name ≡ false
    no_owner name m =
        never_true (covers_of owner following name) (λ t. go ((covers_between owner following name).0 t) (sides l i h name m))
      where
        go : Covered owner following name → Sides l i h name → ⊥
        go c (inl n) = before_gap name (owned name m).under c n
        go c (inr (s, n)) = not_both name following (c.between s).1 n

    -- a name that exists and is covered has the next name under it
    pub next_under : (name : List ℕ) → Exists apex owners name → covers_of owner following name ≡ true
        → is_under name following ≡ true
    next_under name (v, u, (o, m, k)) t = go ((covers_between owner following name).0 t) (sides l i h o m)
      where
        go : Covered owner following name → Sides l i h o → is_under name following ≡ true
        go c (inl n) = absurd (before_gap name u c (not_after_transitive name o owner (above_not_after name o k) n))
        go c (inr (s, n)) = amid name name following o (labels_under name name [] refl) k (inl (c.between s).1) n

    pub gap : ListGap apex owners owner following
    gap =
        record {
          no_owner = no_owner;
          no_existing = λ name e d. true≢false (sym (next_under name e d.0) ∙ d.1);
        }
