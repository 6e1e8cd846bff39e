-- The encloser from how the query stands to the owner and to the next name (`encloses`): after the owner and before the next name it is in
-- the gap; after both it is in the last gap exactly where it shares all of the next name with the owner (`last`, `shares_next`).
use mathlib.Core.Path.{◌≡◌, refl, sym, ap, ◌∙◌}
use mathlib.Core.List.{List, reverse}
use mathlib.Core.Bool.{Bool, true, false, ◌&&◌, cond}
use mathlib.Core.Logic.{◌⊎◌, inl, inr}
use Prim.Native.Nat.{ℕ, ◌≤◌, ◌<◌}
use native.Mathlib.Omega.{arith}
use borrow.Author.Tests.{lt-ltb, le-ltb, eqb-true, eqb-false, leb-true, leb-false}
use lib.Dec.{eqb, leb}
use lib.ListN.{length}
use Rattle.name.specs.Wire.{Reading}
use Rattle.std.specs.Prelude.{Ok, Err}
use Rattle.name.specs.Wire.{reading_of}
use Rattle.name.proofs.Whole.{broken}
use Rattle.order.specs.Order.{SortsBefore, folded_labels}
use Rattle.order.proofs.Canonical.{before_irreflexive, before_transitive, before_total}
use Rattle.order.proofs.Comparison.{right_refl, right_earlier, right_later}
use Rattle.checks.specs.Under.{is_under}
use Rattle.encloser.specs.declared.Encloser.TheVariants.{OfOwner, OfNext}
use Rattle.enclosing.specs.declared.forks.Relation.{Relation}
use Rattle.enclosing.specs.declared.forks.Relation.TheVariants.{Before, Equal, After, Unrelated}
use Rattle.encloser.specs.Encloser.{shared_ancestor, longer, encloser_of}
use Rattle.encloser.specs.Closest.{InGap, Shared}
use Rattle.enclosing.specs.Private.Relations.{relation_of, enclose_after, enclose_of}
use Rattle.encloser.proofs.Gaps.{under_not_before, gap_true}
use Rattle.encloser.proofs.Sharing.{longest, shorter_shared, all_shared, shared_all}
use Rattle.encloser.proofs.Closest.{outside}

-- ---- the longer of two

module _ {m n : ℕ} where
  pub longer_next : m < n → OfNext n ≡ longer m n
  longer_next h = rw (lt-ltb m n h)

  pub longer_owner : n ≤ m → OfOwner m ≡ longer m n
  longer_owner h = rw (le-ltb m n h)

-- ---- how one name stands to another

-- before it, the same, or after it
data Stand (s t : List ℕ) : Type 0 where
  earlier : reading_of t ≡ Ok tt → SortsBefore s t → relation_of s t ≡ Before (length (shared_ancestor s t)) → Stand s t
  same : reading_of t ≡ Ok tt → folded_labels s ≡ folded_labels t → relation_of s t ≡ Equal → Stand s t
  later : reading_of t ≡ Ok tt → SortsBefore t s → relation_of s t ≡ After (length (shared_ancestor s t)) → Stand s t
  none : (reading_of t ≡ Ok tt → ⊥) → relation_of s t ≡ Unrelated → Stand s t

stand : (s t : List ℕ) → Stand s t
stand s t = go (reading_of t) refl (before_total (folded_labels s) (folded_labels t))
  where
    go : (r : Reading) → reading_of t ≡ r → SortsBefore s t ⊎ ((folded_labels s ≡ folded_labels t) ⊎ SortsBefore t s) → Stand s t
    go (Ok _) e (inl h) = earlier e h (rw (e, right_earlier (reverse (folded_labels s)) (reverse (folded_labels t)) h))
    go (Ok _) e (inr (inl h)) = same e h (rw (e, h, right_refl (reverse (folded_labels t))))
    go (Ok _) e (inr (inr h)) = later e h (rw (e, right_later (reverse (folded_labels s)) (reverse (folded_labels t)) h))
    go (Err f) e h = none (λ w. broken (sym e ∙ w)) (rw e)

-- two names do not sort before each other
not_both : (s t : List ℕ) → SortsBefore s t → SortsBefore t s → ⊥
not_both s t h k =
    before_irreflexive (folded_labels s) (before_transitive (folded_labels s) (folded_labels t) (folded_labels s) h k)

-- ---- after the owner

module _ (query owner next : List ℕ) (wq : reading_of query ≡ Ok tt) where
  -- no gap, no octet
  nothing : (InGap query owner next → ⊥) → OfOwner 0 ≡ encloser_of query owner next
  nothing f = sym (outside query owner next f)

  module _ (wo : reading_of owner ≡ Ok tt) (wn : reading_of next ≡ Ok tt) (after_owner : SortsBefore owner query) where
    abbrev m : ℕ
    m = length (shared_ancestor query owner)

    abbrev n : ℕ
    n = length (shared_ancestor query next)

    gap : (SortsBefore owner next → SortsBefore query next)
        → ((SortsBefore owner next → ⊥) → (is_under next owner ≡ true) × (is_under next query ≡ true)) → InGap query owner next
    gap b l =
        record { whole_query = wq; whole_owner = wo; whole_next = wn; after_owner = after_owner; before_next = b; last = l }

    -- in the gap
    between : SortsBefore query next → longer m n ≡ encloser_of query owner next
    between h =
        let b : SortsBefore owner next =
        before_transitive (folded_labels owner) (folded_labels query) (folded_labels next) after_owner h in
        rw (gap_true query owner next (gap (λ c. h) (λ f. absurd (f b))))

    -- at its end
    at_next : folded_labels query ≡ folded_labels next → OfOwner 0 ≡ encloser_of query owner next
    at_next e = nothing (λ g. before_irreflexive (folded_labels next) (rw e at (g.before_next (rw e at after_owner))))

    -- past its end
    module _ (after_next : SortsBefore next query) where
      last : n ≡ length next → n ≤ m → OfOwner m ≡ encloser_of query owner next
      last e h =
          let uq : is_under next query ≡ true = shared_all query next wn e in
          let uo : is_under next owner ≡ true = shorter_shared query owner wo next wn uq (omega arith) in
          longer_owner h ∙ rw (gap_true query owner next (gap (λ b. absurd (under_not_before next owner uo b)) (λ f. (uo, uq))))

      -- in the last gap the query shares all of the next name with both
      shares_next : InGap query owner next → (n ≡ length next) × (n ≤ m)
      shares_next g =
          let u = g.last (λ b. not_both query next (g.before_next b) after_next) in
          let s : Shared next query owner = record { whole = wn; of_query_lem = u.1; of_name = u.0 } in
          let a : n ≡ length next = ap length (all_shared query next wn u.1) in
          (a, omega (arith, longest query owner wo next s))

      past : (a b : Bool) → eqb n (length next) ≡ a → leb n m ≡ b → cond (a && b) (OfOwner m) (OfOwner 0) ≡ encloser_of query owner next
      past true true ea eb = last (eqb-true n (length next) ea) (leb-true n m eb)
      past true false ea eb = nothing (λ g. omega (arith, shares_next g, leb-false n m eb))
      past false b ea eb = nothing (λ g. eqb-false n (length next) ea (shares_next g).0)

  beside_next : reading_of owner ≡ Ok tt → SortsBefore owner query
      → enclose_after (length (shared_ancestor query owner)) (relation_of query next) (length next) ≡ encloser_of query owner next
  beside_next wo h = go (stand query next)
    where
      go : Stand query next
          → enclose_after (length (shared_ancestor query owner)) (relation_of query next) (length next) ≡ encloser_of query owner next
      go (earlier wn k e) = rw e (between wo wn h k)
      go (same wn k e) = rw e (at_next wo wn h k)
      go (later wn k e) = rw e (past wo wn h k (eqb (n wo wn h) (length next)) (leb (n wo wn h) (m wo wn h)) refl refl)
      go (none f e) = rw e (nothing (λ g. f g.whole_next))

  from_both : enclose_of (relation_of query owner) (relation_of query next) (length next) ≡ encloser_of query owner next
  from_both = go (stand query owner)
    where
      go : Stand query owner → enclose_of (relation_of query owner) (relation_of query next) (length next) ≡ encloser_of query owner next
      go (earlier wo h e) = rw e (nothing (λ g. not_both query owner h g.after_owner))
      go (same wo h e) = rw e (nothing (λ g. before_irreflexive (folded_labels owner) (rw h at g.after_owner)))
      go (later wo h e) = rw e (beside_next wo h)
      go (none f e) = rw e (nothing (λ g. f g.whole_owner))

  -- from how the query stands to both ends
  pub encloses : {x y : Relation} → x ≡ relation_of query owner → y ≡ relation_of query next
      → enclose_of x y (length next) ≡ encloser_of query owner next
  encloses e f = rw (e, f) from_both

-- of a query that is no name
pub no_query : (query owner next : List ℕ) → (reading_of query ≡ Ok tt → ⊥) → OfOwner 0 ≡ encloser_of query owner next
no_query query owner next f = sym (outside query owner next (λ g. f g.whole_query))
