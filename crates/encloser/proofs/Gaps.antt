-- The tests of a gap are what they say: a name is found before another exactly where it sorts before it, so a query passes the tests
-- exactly where it is in the gap (`gap_true`, `true_gap`).
use mathlib.Core.Path.{◌≡◌, refl, sym, ap, ◌∙◌}
use mathlib.Core.List.{List, [], ◌∷◌, ◌++◌, reverse}
use mathlib.Core.Bool.{Bool, true, false, ◌&&◌, cond, true≢false, false≢true}
use mathlib.Core.Logic.{◌⊎◌, inl, inr}
use Prim.Native.Nat.{ℕ}
use native.Mathlib.Omega.{arith}
use Rattle.facts.proofs.Booleans.{both_true, never_true}
use Rattle.name.specs.Wire.{Reading}
use Rattle.std.specs.Prelude.{Ok, Err}
use Rattle.name.specs.Wire.{reading_of}
use Rattle.order.specs.Order.{Before, SortsBefore, folded_labels}
use Rattle.order.specs.Compare.{right_order}
use Rattle.order.proofs.Canonical.{before_irreflexive, before_transitive, before_total, before_under}
use Rattle.order.proofs.Comparison.{right_refl, right_earlier, right_later}
use Rattle.checks.specs.Under.{is_under, above}
use Rattle.checks.proofs.UnderLabels.{under_labels}
use Rattle.encloser.specs.Gap.{is_whole, is_earlier, is_before, ends_gap, is_in_gap}
use Rattle.encloser.specs.Closest.{InGap}
-- passed on, so that a wrong gap or encloser is refused at an example before any law of it is tried
pub use Rattle.encloser.proofs.Examples.{tie_of_owner, next_spelling, query_itself, owner_itself, next_under_owner, last_gap}
pub use Rattle.encloser.proofs.Examples.{last_gap_outside, one_name, owner_no_gap}

-- ---- one name before another

module _ (first second : List ℕ) where
  pub sorts_true : SortsBefore first second → is_before first second ≡ true
  sorts_true h = ap is_earlier (right_earlier (reverse (folded_labels first)) (reverse (folded_labels second)) h)

  pub true_sorts : is_before first second ≡ true → SortsBefore first second
  true_sorts t = go (before_total ls ms)
    where
      ls : List (List ℕ)
      ls = folded_labels first

      ms : List (List ℕ)
      ms = folded_labels second

      go : Before ls ms ⊎ ((ls ≡ ms) ⊎ Before ms ls) → Before ls ms
      go (inl h) = h
      go (inr (inl e)) =
          let s = ap (λ (x : List (List ℕ)). right_order (reverse x) (reverse ms)) e ∙ right_refl (reverse ms) in
          absurd (false≢true (sym (ap is_earlier s) ∙ t))
      go (inr (inr h)) = absurd (false≢true (sym (ap is_earlier (right_later (reverse ls) (reverse ms) h)) ∙ t))

  pub unsorted_false : (SortsBefore first second → ⊥) → is_before first second ≡ false
  unsorted_false f = never_true (is_before first second) (λ t. f (true_sorts t))

-- a name at or under another does not sort before it
pub under_not_before : (apex name : List ℕ) → is_under apex name ≡ true → SortsBefore name apex → ⊥
under_not_before apex name u h = go (above apex name) (under_labels apex name u)
  where
    A : List (List ℕ)
    A = folded_labels apex

    go : (ls : List (List ℕ)) → folded_labels name ≡ ls ++ A → ⊥
    go [] e = before_irreflexive A (rw e at h)
    go (l ∷ ls) e =
        before_irreflexive A
        (before_transitive A ((l ∷ ls) ++ A) A (before_under (l ∷ ls) A (omega arith)) (rw e at h))

-- ---- the gap

pub whole_true : (r : Reading) → is_whole r ≡ true → r ≡ Ok tt
whole_true (Ok _) t = refl
whole_true (Err f) t = absurd (false≢true t)

pub true_whole : (r : Reading) → r ≡ Ok tt → is_whole r ≡ true
true_whole r e = rw e

module _ (query owner next : List ℕ) where
  ends_true : (b : Bool) → is_before owner next ≡ b → InGap query owner next
      → cond b (is_before query next) (is_under next owner && is_under next query) ≡ true
  ends_true true e g = sorts_true query next (g.before_next (true_sorts owner next e))
  ends_true false e g =
      let l = g.last (λ h. true≢false (sym (sorts_true owner next h) ∙ e)) in rw (l.0, l.1)

  pub gap_true : InGap query owner next → is_in_gap query owner next ≡ true
  gap_true g =
      rw (
        true_whole (reading_of query) g.whole_query,
        true_whole (reading_of owner) g.whole_owner,
        true_whole (reading_of next) g.whole_next,
        sorts_true owner query g.after_owner,
      )
      (ends_true (is_before owner next) refl g)

  pub true_gap : is_in_gap query owner next ≡ true → InGap query owner next
  true_gap t =
      let q : Bool = is_whole (reading_of query) in
      let o : Bool = is_whole (reading_of owner) in
      let n : Bool = is_whole (reading_of next) in
      let d = both_true (q && o && n && is_before owner query) (ends_gap query owner next) t in
      let c = both_true (q && o && n) (is_before owner query) d.0 in
      let b = both_true (q && o) n c.0 in
      let a = both_true q o b.0 in
      record {
        whole_query = whole_true (reading_of query) a.0;
        whole_owner = whole_true (reading_of owner) a.1;
        whole_next = whole_true (reading_of next) b.1;
        after_owner = true_sorts owner query c.1;
        before_next = λ h. true_sorts query next (rw (sorts_true owner next h) at d.1);
        last = λ f. both_true (is_under next owner) (is_under next query) (rw (unsorted_false owner next f) at d.1);
      }
