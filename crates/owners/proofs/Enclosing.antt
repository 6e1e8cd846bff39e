-- On a checked list and a query of the zone, the owner that is found and the next one, the apex after the last, enclose the query, or the
-- owner is the query (`find_encloses`): the owners not after the query come first, and the apex is one of them.
use mathlib.Core.Path.{◌≡◌, refl, sym, ap, ◌∙◌}
use mathlib.Core.List.{List, [], ◌∷◌}
use mathlib.Core.Bool.{Bool, true, false, true≢false}
use mathlib.Core.Logic.{◌⊎◌, inl, inr}
use Prim.Native.Nat.{ℕ, zero, suc, ◌+◌, ◌≤◌, ◌<◌}
use native.Mathlib.Omega.{arith}
use borrow.Author.Tests.{ltb-true, ltb-false, le-ltb}
use lib.Dec.{ltb}
use lib.ListN.{length, get_or, get_or-eq_default}
use Rattle.name.specs.Wire.{Reading}
use Rattle.std.specs.Prelude.{Ok, Err}
use Rattle.name.specs.Wire.{reading_of}
use Rattle.name.specs.Labels.{wire}
use Rattle.name.proofs.Folding.{folded_whole, folded_is_wire, folded_length, folded_idempotent}
use Rattle.space.specs.Fold.{folded}
use Rattle.order.specs.Order.{Before, SortsBefore, folded_labels}
use Rattle.order.proofs.Canonical.{before_total}
use Rattle.checks.specs.Under.{is_under}
use Rattle.checks.proofs.UnderLabels.{labels_under}
use Rattle.encloser.specs.Gap.{is_before}
use Rattle.encloser.specs.Closest.{InGap}
use Rattle.encloser.proofs.Gaps.{sorts_true, true_sorts, unsorted_false, under_not_before}
use Rattle.owners.specs.declared.Look.TheVariants.{NotAfter, After}
use Rattle.owners.specs.Layout.{owners_of}
use Rattle.owners.specs.Halving.{seen}
use Rattle.owners.specs.Answers.{look_in, find_within}
use Rattle.owners.specs.Gaps.{next_of, Encloses}
use Rattle.owners.proofs.Layouts.{get_d_any, owners_length}
use Rattle.owners.proofs.FoldedNames.{labels_folded, under_folded}
use Rattle.owners.proofs.Following.{Tested}
use Rattle.owners.proofs.Searching.{sorts_transitive, rises_at, below, below_most, look_before, look_behind}
use Rattle.owners.proofs.Halvings.{below_power, halve_finds}
use Rattle.owners.proofs.Accepting.{Listed, Accepted}

-- ---- what a look tells

after_whole : (r : Reading) (b : Bool) → seen r b ≡ After → (r ≡ Ok tt) × (b ≡ true)
after_whole (Ok _) true e = (refl, refl)
after_whole (Ok _) false e = absurd (true≢false (cc))
after_whole (Err f) b e = absurd (true≢false (cc))

module _ {apex : List ℕ} {limit : ℕ} (va : reading_of apex ≡ Ok tt) (fits : length apex ≤ limit) where
  apex_tested : Tested apex limit (folded apex)
  apex_tested =
      record {
        whole = folded_whole apex va;
        folds = folded_idempotent apex;
        fits = rw (folded_length apex) fits;
        under = labels_under apex (folded apex) [] (labels_folded apex va);
      }

  module _ {all : List (List ℕ)} (l : Listed apex limit all) (query : List ℕ) (vq : reading_of query ≡ Ok tt)
      (uq : is_under apex query ≡ true) where
    abbrev others : List (List ℕ)
    others = l.others

    -- the last owner that is not after the query
    abbrev pub last : ℕ
    last = below query others

    not_before_apex : SortsBefore query (folded apex) → ⊥
    not_before_apex h = under_not_before (folded apex) query (under_folded apex va query ∙ uq) h

    pub owner_tested : (i : ℕ) → i < length all → Tested apex limit (get_or all i [])
    owner_tested i h = rw l.first (go i (rw l.first at h))
      where
        go : (j : ℕ) → j < length (folded apex ∷ others) → Tested apex limit (get_or (folded apex ∷ others) j [])
        go zero g = apex_tested
        go (suc j) g = (rises_at l.rises j (omega arith)).0

    pub before_last : (i : ℕ) → i < suc last → look_in all query i ≡ NotAfter
    before_last i h = rw l.first (go i h)
      where
        go : (j : ℕ) → j < suc last → look_in (folded apex ∷ others) query j ≡ NotAfter
        go zero g = rw (folded_whole apex va, unsorted_false query (folded apex) not_before_apex)
        go (suc j) g = look_before query (λ n t. t.whole) l.rises j (omega arith)

    pub behind_last : (i : ℕ) → suc last ≤ i → i < length all → look_in all query i ≡ After
    behind_last i h k = rw l.first (go i h (rw l.first at k))
      where
        go : (j : ℕ) → suc last ≤ j → j < length (folded apex ∷ others) → look_in (folded apex ∷ others) query j ≡ After
        go zero g f = absurd (omega arith)
        go (suc j) g f = look_behind query (λ n t. t.whole) l.rises j (omega arith) (omega arith)

    last_within : last < length all
    last_within = omega (arith, below_most query others, ap length l.first)

    -- the owner is the query, or before it
    owner_first : (folded query ≡ get_or all last []) ⊎ SortsBefore (get_or all last []) query
    owner_first = go (before_total os qs)
      where
        owner : List ℕ
        owner = get_or all last []

        os : List (List ℕ)
        os = folded_labels (get_or all last [])

        qs : List (List ℕ)
        qs = folded_labels query

        t : Tested apex limit (get_or all last [])
        t = owner_tested last last_within

        go : Before os qs ⊎ ((os ≡ qs) ⊎ Before qs os) → (folded query ≡ get_or all last []) ⊎ SortsBefore (get_or all last []) query
        go (inl h) = inr h
        go (inr (inl e)) =
            inl (folded_is_wire query vq ∙ ap wire (sym e) ∙ sym (folded_is_wire (get_or all last []) t.whole) ∙ t.folds)
        go (inr (inr h)) =
            let n : look_in all query last ≡ NotAfter = before_last last (omega arith) in
            let f : After ≡ NotAfter = rw (t.whole, sorts_true query (get_or all last []) h) at n in
            absurd (true≢false (cc))

    pub encloses : (folded query ≡ get_or all last []) ⊎ InGap query (get_or all last []) (next_of all last)
    encloses = go owner_first
      where
        owner : List ℕ
        owner = get_or all last []

        t : Tested apex limit (get_or all last [])
        t = owner_tested last last_within

        -- the next owner is after the query
        inner : last + 1 < length all → SortsBefore (get_or all last []) query → InGap query (get_or all last []) (next_of all last)
        inner h s =
            let x = after_whole (reading_of (get_or all (last + 1) [])) (is_before query (get_or all (last + 1) []))
            (behind_last (last + 1) (omega arith) h) in
            let g : SortsBefore query (get_or all (last + 1) []) = true_sorts query (get_or all (last + 1) []) x.1 in
            rw (get_d_any all (last + 1) (get_or all 0 []) [] h)
            (record {
              whole_query = vq;
              whole_owner = t.whole;
              whole_next = x.0;
              after_owner = s;
              before_next = λ p. g;
              last = λ f. absurd (f (sorts_transitive (get_or all last []) query (get_or all (last + 1) []) s g));
            })

        -- the apex after the last
        outer : length all ≤ last + 1 → SortsBefore (get_or all last []) query → InGap query (get_or all last []) (next_of all last)
        outer h s =
            let first : get_or all 0 [] ≡ folded apex = rw l.first in
            let u : is_under (folded apex) (get_or all last []) ≡ true = under_folded apex va (get_or all last []) ∙ t.under in
            rw (get_or-eq_default all (get_or all 0 []) h, first)
            (record {
              whole_query = vq;
              whole_owner = t.whole;
              whole_next = folded_whole apex va;
              after_owner = s;
              before_next = λ p. absurd (under_not_before (folded apex) (get_or all last []) u p);
              last = λ f. (u, under_folded apex va query ∙ uq);
            })

        go : (folded query ≡ get_or all last []) ⊎ SortsBefore (get_or all last []) query
            → (folded query ≡ get_or all last []) ⊎ InGap query (get_or all last []) (next_of all last)
        go (inl e) = inl e
        go (inr s) = inr (side (ltb (last + 1) (length all)) refl s)
          where
            side : (b : Bool) → ltb (last + 1) (length all) ≡ b → SortsBefore (get_or all last []) query
                → InGap query (get_or all last []) (next_of all last)
            side true e = inner (ltb-true (last + 1) (length all) e)
            side false e = outer (ltb-false (last + 1) (length all) e)

-- ---- the lookup

module _ (owners octets : ℕ) {apex : List ℕ} {limit : ℕ} {names starts : List ℕ} (a : Accepted owners octets apex limit names starts)
    (query : List ℕ) (vq : reading_of query ≡ Ok tt) (uq : is_under apex query ≡ true) where
  abbrev all : List (List ℕ)
  all = owners_of names starts

  pub find_encloses : Encloses all query (find_within owners octets names starts query)
  find_encloses =
      let n = owners_length names starts in
      let fits : length apex ≤ limit = omega (arith, a.apex_fits) in
      let f = halve_finds (look_in all query) (suc (last a.apex_whole fits a.listed query vq uq))
      (before_last a.apex_whole fits a.listed query vq uq) (length starts) 0 (length starts) 0
      (omega (arith, below_power (length starts))) (omega arith)
      (omega (arith, n, last_within a.apex_whole fits a.listed query vq uq))
      (λ i p q. behind_last a.apex_whole fits a.listed query vq uq i p (omega arith)) in
      record {
        index = last a.apex_whole fits a.listed query vq uq;
        count = f.count;
        found = rw (vq, le-ltb owners (length starts) a.few, le-ltb octets (length names) a.small) f.is;
        within = last_within a.apex_whole fits a.listed query vq uq;
        encloses = encloses a.apex_whole fits a.listed query vq uq;
      }
