-- What the check of a list and the lookup in it promise together (`signed_ahead`): every gap of an accepted list has all owners outside,
-- and the lookup's is the one that a query lies in.
use mathlib.Core.Path.{◌≡◌, sym, ap, ◌∙◌}
use mathlib.Core.List.{List, []}
use mathlib.Core.Bool.{true, true≢false}
use mathlib.Core.Logic.{◌⊎◌, inl, inr, ◌↔◌}
use Prim.Native.Nat.{ℕ}
use lib.ListN.{get_or}
use Rattle.facts.proofs.Booleans.{never_true}
use Rattle.std.specs.Prelude.{Ok}
use Rattle.name.specs.Wire.{reading_of}
use Rattle.name.specs.Answer.{answer}
use Rattle.space.specs.Fold.{folded}
use Rattle.order.specs.Order.{folded_labels}
use Rattle.checks.specs.Under.{is_under, above}
use Rattle.checks.proofs.UnderLabels.{under_labels, labels_under}
use Rattle.encloser.specs.Encloser.{closest_of}
use Rattle.encloser.specs.Closest.{InGap}
use Rattle.covering.specs.Between.{covers_of}
use Rattle.covering.proofs.Between.{covers_between}
use Rattle.owners.specs.declared.Found.TheVariants.{Owner}
use Rattle.owners.specs.Layout.{owners_of}
use Rattle.owners.specs.Sizes.{most_owners, most_octets}
use Rattle.owners.specs.Gaps.{next_of, Encloses}
use Rattle.owners.specs.Answers.{check_owners_of, find_owner_of}
use Rattle.owners.proofs.FoldedNames.{reading_folded, labels_folded}
use Rattle.owners.proofs.Accepting.{Accepted, check_accepted}
use Rattle.owners.proofs.Enclosing.{find_encloses}
use Rattle.existing.specs.Existing.{Exists}
use Rattle.existing.specs.Denied.{IsDenied}
use Rattle.existing.specs.SignedAhead.{IsOwner, NotListed, QueryGap, SignedAhead}
use Rattle.existing.proofs.Sides.{at_member, next_member}
use Rattle.existing.proofs.OnTheSpotFolded.{covers_folded}
use Rattle.existing.proofs.Gaps.{Owned, owned, gap}
use Rattle.existing.proofs.Enclosers.{closest, itself}
use Rattle.existing.proofs.Wildcards.{one_wildcard, expanded_exists, wildcard_zone, wildcard_too_long}

-- a query in a gap is covered by it
in_gap_covered : (query owner next : List ℕ) → InGap query owner next → covers_of owner next query ≡ true
in_gap_covered query owner next g =
    (covers_between owner next query).1
    (record {
      whole_owner = g.whole_owner;
      whole_next = g.whole_next;
      whole_name = g.whole_query;
      between = λ h. (g.after_owner, g.before_next h);
      around = λ f. inl g.after_owner;
    })

module _ (apex : List ℕ) (limit : ℕ) (names starts : List ℕ) (a : Accepted most_owners most_octets apex limit names starts) where
  abbrev owners : List (List ℕ)
  owners = owners_of names starts

  -- what the lookup finds for a query of the zone
  find : (query : List ℕ) → reading_of query ≡ Ok tt → is_under apex query ≡ true
      → Encloses owners query (find_owner_of names starts query)
  find query w u = find_encloses most_owners most_octets a query w u

  -- ---- an owner

  listed : (query : List ℕ) → IsOwner owners query
      → (i : ℕ) × (looks : ℕ) × (find_owner_of names starts query ≡ answer (Owner i looks))
      × (get_or owners i [] ≡ folded query)
  listed query (o, m, e) = (f.index, f.count, f.found, go f.encloses)
    where
      t : Owned apex o
      t = owned a.apex_whole a.listed o m

      same : folded query ≡ o
      same = sym e ∙ t.folds

      w : reading_of query ≡ Ok tt
      w = sym (reading_folded query) ∙ ap reading_of same ∙ t.whole

      u : is_under apex query ≡ true
      u = labels_under apex query (above apex o) (sym (labels_folded query w) ∙ ap folded_labels same ∙ under_labels apex o t.under)

      f : Encloses owners query (find_owner_of names starts query)
      f = find query w u

      go : (folded query ≡ get_or owners f.index []) ⊎ InGap query (get_or owners f.index []) (next_of owners f.index)
          → get_or owners f.index [] ≡ folded query
      go (inl s) = sym s
      go (inr g) =
          let owner : List ℕ = get_or owners f.index [] in
          let following : List ℕ = next_of owners f.index in
          absurd
          (true≢false
          (sym (in_gap_covered query owner following g) ∙ sym (covers_folded query w owner following)
          ∙ ap (covers_of owner following) same
          ∙ (gap a.apex_whole a.listed f.index f.within).no_owner o m))

  -- ---- another query

  module _ (query : List ℕ) (n : NotListed apex owners query)
      (f : Encloses owners query (find_owner_of names starts query)) where
    abbrev owner : List ℕ
    owner = get_or owners f.index []

    abbrev following : List ℕ
    following = next_of owners f.index

    in_gap : InGap query owner following
    in_gap = go f.encloses
      where
        go : (folded query ≡ owner) ⊎ InGap query owner following → InGap query owner following
        go (inl s) =
            let m = at_member owners f.index [] f.within in
            absurd (n.other (owner, m, (owned a.apex_whole a.listed owner m).folds ∙ sym s))
        go (inr g) = g

    denied : IsDenied owner following query ↔ (Exists apex owners query → ⊥)
    denied = (
      λ d x. (gap a.apex_whole a.listed f.index f.within).no_existing query x d,
      λ g. (
        in_gap_covered query owner following in_gap,
        never_true (is_under query following)
            (λ u. g (n.whole, n.under, (following, next_member a.listed f.index f.within, u))),
      ),
    )

    gap_of : QueryGap apex owners query owner following
    gap_of =
        let c = closest a.apex_whole a.listed f.index f.within query n.under in_gap in
        let e : List ℕ = closest_of query owner following in
        record {
          covered = in_gap_covered query owner following in_gap;
          denied = denied;
          closest = c;
          itself = itself a.apex_whole a.listed f.index f.within query n.under in_gap;
          one_wildcard = λ wildcard x. one_wildcard query e wildcard c x;
          nothing_answers = λ g wildcard x (o, m, s). g (o, m, s ∙ one_wildcard query e wildcard c x);
          nothing_expands = λ g wildcard x s. g (expanded_exists apex owners query e wildcard c x s);
          wildcard = λ name w g.
              let z = wildcard_zone e c.exists.0 apex c.exists.1 name w in record { whole = z.0; under = z.1; other = g };
          too_long = λ w (o, m, s). wildcard_too_long e c.exists.0 w o (owned a.apex_whole a.listed o m).whole s;
        }

  not_listed : (query : List ℕ) → NotListed apex owners query
      → (i : ℕ) × (looks : ℕ) × (find_owner_of names starts query ≡ answer (Owner i looks))
      × QueryGap apex owners query (get_or owners i []) (next_of owners i)
  not_listed query n = let f = find query n.whole n.under in (f.index, f.count, f.found, gap_of query n f)

pub signed_ahead : (apex : List ℕ) (limit : ℕ) (names starts : List ℕ) (count : ℕ) → check_owners_of apex limit names starts ≡ answer count
    → SignedAhead apex (owners_of names starts) (find_owner_of names starts)
signed_ahead apex limit names starts count e =
    let a = (check_accepted most_owners most_octets apex limit names starts count e).0 in
    record {
      gaps = gap a.apex_whole a.listed;
      listed = listed apex limit names starts a;
      not_listed = not_listed apex limit names starts a;
    }
