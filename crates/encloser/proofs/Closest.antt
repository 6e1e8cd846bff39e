-- The closest encloser is what request Seven of document 02 says (`closest_enclosers`): what a query shares with a name is the longest
-- ancestor of both, and the longer of the two is handed back.
use mathlib.Core.Path.{◌≡◌, refl, sym, ap, ◌∙◌}
use mathlib.Core.List.{List, [], ◌++◌}
use mathlib.Core.Bool.{Bool, true, false}
use mathlib.Core.Logic.{◌⊎◌, inl, inr}
use Prim.Native.Nat.{ℕ, ◌-◌, ◌≤◌, ◌<◌}
use native.Mathlib.Omega.{arith}
use native.Mathlib.Decide.{dec_lt}
use borrow.Author.Tests.{ltb-true, ltb-false}
use lib.Dec.{ltb}
use lib.ListN.{length, drop, length-append}
use Rattle.facts.proofs.Booleans.{never_true}
use Rattle.facts.proofs.Lists.{length_none}
use Rattle.name.specs.Labels.{wire, labels_of}
use Rattle.name.proofs.Labels.{wire_some}
use Rattle.name.proofs.Folding.{folded_is_wire}
use Rattle.space.specs.Fold.{folded}
use Rattle.order.specs.Order.{SortsBefore, folded_labels}
use Rattle.order.proofs.Canonical.{before_total}
use Rattle.checks.specs.Under.{is_under, above}
use Rattle.checks.proofs.UnderLabels.{under_labels, labels_under}
use Rattle.encloser.specs.declared.Encloser.{Encloser}
use Rattle.encloser.specs.declared.Encloser.TheVariants.{OfOwner, OfNext}
use Rattle.encloser.specs.Gap.{is_in_gap}
use Rattle.encloser.specs.Encloser.{shared, shared_ancestor, encloser_of, octets_of, closest_of}
use Rattle.encloser.specs.Closest.{InGap, Shared, Closest, ClosestEnclosers}
use Rattle.encloser.proofs.Gaps.{under_not_before, gap_true, true_gap}
use Rattle.encloser.proofs.Ancestors.{Common, common_most, more_octets, octets_labels}
use Rattle.encloser.proofs.Ancestors.{ancestor_end, ancestor_fits, ancestor_whole, ancestor_labels, ancestor_octets}
use Rattle.encloser.proofs.Sharing.{sharing, sharing_octets, is_shared, longest, shorter_shared, all_shared, alike_octets}

-- ---- the answer in a gap

-- which one is handed back
pub data Found (query owner next : List ℕ) : Type 0 where
  of_owner : encloser_of query owner next ≡ OfOwner (length (shared_ancestor query owner))
      → closest_of query owner next ≡ shared_ancestor query owner
      → length (shared_ancestor query next) ≤ length (shared_ancestor query owner) → Found query owner next
  of_next : encloser_of query owner next ≡ OfNext (length (shared_ancestor query next))
      → closest_of query owner next ≡ shared_ancestor query next
      → length (shared_ancestor query owner) < length (shared_ancestor query next) → Found query owner next

module _ (query owner next : List ℕ) (g : InGap query owner next) where
  abbrev lo : ℕ
  lo = length (shared_ancestor query owner)

  abbrev ln : ℕ
  ln = length (shared_ancestor query next)

  found : Found query owner next
  found = go (ltb lo ln) refl
    where
      go : (b : Bool) → ltb lo ln ≡ b → Found query owner next
      go true e =
          of_next (rw (gap_true query owner next g, e))
          (rw (gap_true query owner next g, e) (ancestor_end next g.whole_next (shared query next)))
          (ltb-true lo ln e)
      go false e =
          of_owner (rw (gap_true query owner next g, e))
          (rw (gap_true query owner next g, e) (ancestor_end owner g.whole_owner (shared query owner)))
          (ltb-false lo ln e)

  in_gap : Closest query owner next (closest_of query owner next)
  in_gap = go found
    where
      either : (n : ℕ) → lo ≤ n → ln ≤ n → (other : List ℕ) → Shared other query owner ⊎ Shared other query next → length other ≤ n
      either n a b other (inl s) = omega (arith, longest query owner g.whole_owner other s)
      either n a b other (inr s) = omega (arith, longest query next g.whole_next other s)

      go : Found query owner next → Closest query owner next (closest_of query owner next)
      go (of_owner e c h) =
          rw c
          (record {
            is_shared = inl (is_shared query owner g.whole_owner);
            longest = either lo (omega arith) h;
            some = wire_some (drop (length (labels_of owner) - shared query owner) (labels_of owner));
          })
      go (of_next e c h) =
          rw c
          (record {
            is_shared = inr (is_shared query next g.whole_next);
            longest = either ln (omega arith) (omega arith);
            some = wire_some (drop (length (labels_of next) - shared query next) (labels_of next));
          })

  -- a longer ancestor that a query under the owner shares with the next name puts the next name under the owner
  under_owner_next : is_under owner query ≡ true → lo < ln → length owner ≤ lo → SortsBefore owner next × (is_under owner next ≡ true)
  under_owner_next u h k = (go (before_total (folded_labels owner) (folded_labels next)), under)
    where
      under : is_under owner next ≡ true
      under = shorter_shared query next g.whole_next owner g.whole_owner u (omega arith)

      go : SortsBefore owner next ⊎ ((folded_labels owner ≡ folded_labels next) ⊎ SortsBefore next owner) → SortsBefore owner next
      go (inl b) = b
      go (inr (inl e)) = absurd (omega (arith, alike_octets query owner next g.whole_owner g.whole_next e))
      go (inr (inr b)) = absurd (under_not_before owner next under b)

  module _ (u : is_under owner query ≡ true) (f : SortsBefore owner next → is_under owner next ≡ true → ⊥) where
    under_owner : (encloser_of query owner next ≡ OfOwner (length owner)) × (closest_of query owner next ≡ owner)
    under_owner = go found
      where
        whole : shared_ancestor query owner ≡ owner
        whole = all_shared query owner g.whole_owner u

        go : Found query owner next → (encloser_of query owner next ≡ OfOwner (length owner)) × (closest_of query owner next ≡ owner)
        go (of_owner e c h) = (e ∙ ap (λ (a : List ℕ). OfOwner (length a)) whole, c ∙ whole)
        go (of_next e c h) = let r = under_owner_next u h (omega (arith, ap length whole)) in absurd (f r.0 r.1)

  module _ (u : is_under query next ≡ true) where
    abbrev Q : List (List ℕ)
    Q = folded_labels query

    -- the next name and the query share all labels of the query
    query_shared : length Q ≡ shared query next
    query_shared =
        let c = sharing query next g.whole_next in
        omega (
          arith,
          common_most Q (folded_labels next) [] (above query next) Q refl (under_labels query next u),
          ap length c.first_is,
          length-append c.first c.labels,
          c.count,
        )

    next_labels : folded_labels (shared_ancestor query next) ≡ Q
    next_labels =
        ancestor_labels next g.whole_next (shared query next) (above query next) Q (under_labels query next u) query_shared

    next_octets : ln ≡ length query
    next_octets =
        ancestor_octets next g.whole_next (shared query next) (above query next) Q (under_labels query next u) query_shared
        ∙ sym (octets_labels query g.whole_query)

    -- the owner and the query do not, or the owner would be under the query
    fewer_shared : length (sharing query owner g.whole_owner).labels < length Q
    fewer_shared = go (dec_lt (length c.labels) (length Q))
      where
        c : Common Q (folded_labels owner) (shared query owner)
        c = sharing query owner g.whole_owner

        go : Dec (length c.labels < length Q) → length c.labels < length Q
        go (yes p) = p
        go (no f) =
            let z : c.first ≡ [] = length_none c.first (omega (arith, ap length c.first_is, length-append c.first c.labels)) in
            let e : c.labels ≡ Q = sym (c.first_is ∙ ap (λ (x : List (List ℕ)). x ++ c.labels) z) in
            absurd
            (under_not_before query owner
            (labels_under query owner c.second (c.second_is ∙ ap (λ (x : List (List ℕ)). c.second ++ x) e)) g.after_owner)

    owner_shorter : lo < ln
    owner_shorter =
        let c = sharing query owner g.whole_owner in
        omega (
          arith,
          more_octets Q [] Q c.first c.labels refl c.first_is fewer_shared,
          sharing_octets query owner g.whole_owner,
          next_octets,
          octets_labels query g.whole_query,
        )

    next_under : (encloser_of query owner next ≡ OfNext (length query)) × (folded (closest_of query owner next) ≡ folded query)
    next_under = go found
      where
        go : Found query owner next
            → (encloser_of query owner next ≡ OfNext (length query)) × (folded (closest_of query owner next) ≡ folded query)
        go (of_owner e c h) = absurd (omega (arith, owner_shorter))
        go (of_next e c h) = (
          e ∙ ap OfNext next_octets,
          ap folded c
              ∙ folded_is_wire (shared_ancestor query next) (ancestor_whole next g.whole_next (shared query next))
              ∙ ap wire next_labels
              ∙ sym (folded_is_wire query g.whole_query),
        )

-- ---- it is not longer than the name that it is a part of

abbrev pub Fits : Encloser → List ℕ → List ℕ → Type 0
Fits (OfOwner n) owner next = n ≤ length owner
Fits (OfNext n) owner next = n ≤ length next

pub encloser_fits : (query owner next : List ℕ) (e : Encloser) → e ≡ encloser_of query owner next → Fits e owner next
encloser_fits query owner next e h = rw h (go (is_in_gap query owner next) refl)
  where
    part : InGap query owner next → Found query owner next → Fits (encloser_of query owner next) owner next
    part g (of_owner f c k) = rw f (ancestor_fits owner g.whole_owner (shared query owner))
    part g (of_next f c k) = rw f (ancestor_fits next g.whole_next (shared query next))

    go : (b : Bool) → is_in_gap query owner next ≡ b → Fits (encloser_of query owner next) owner next
    go true t = let g = true_gap query owner next t in part g (found query owner next g)
    go false t = rw t (omega arith)

pub found_octets : (query owner next : List ℕ) (e : Encloser) → e ≡ encloser_of query owner next
    → octets_of e owner next ≡ closest_of query owner next
found_octets query owner next e h = ap (λ (x : Encloser). octets_of x owner next) h

-- ---- every query

pub outside : (query owner next : List ℕ) → (InGap query owner next → ⊥) → encloser_of query owner next ≡ OfOwner 0
outside query owner next f = rw (never_true (is_in_gap query owner next) (λ t. f (true_gap query owner next t)))

pub closest_enclosers : ClosestEnclosers
closest_enclosers =
    record {
      in_gap = in_gap;
      outside = outside;
      empty = λ query owner next e g. omega (arith, (in_gap query owner next g).some);
      under_owner = under_owner;
      next_under = next_under;
    }
