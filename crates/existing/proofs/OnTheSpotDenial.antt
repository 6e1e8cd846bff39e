-- The gaps of a denial cover no name that exists (`denies_missing`): what they cover is at or under the next closer name or the wildcard,
-- so one of these two would exist with it; but the next closer name is a longer ancestor of the query than the closest encloser.
use mathlib.Core.Path.{◌≡◌, refl, sym, ap, ◌∙◌}
use mathlib.Core.List.{List, [], ◌++◌}
use mathlib.Core.Bool.{true, false}
use mathlib.Core.Logic.{◌⊎◌, inl, inr}
use Prim.Native.Nat.{ℕ, ◌<◌}
use native.Mathlib.Omega.{arith}
use lib.ListN.{length, length-map}
use Rattle.facts.proofs.Booleans.{never_true}
use Rattle.space.specs.Octets.{Octets}
use Rattle.space.specs.Fold.{folded}
use Rattle.std.specs.Prelude.{Ok}
use Rattle.name.specs.Wire.{reading_of}
use Rattle.name.specs.Labels.{labels_of}
use Rattle.name.specs.Answer.{answer}
use Rattle.order.specs.Order.{folded_labels}
use Rattle.checks.specs.Under.{is_under, above}
use Rattle.checks.proofs.UnderLabels.{under_labels, labels_under}
use Rattle.neighbour.specs.Nearest.{Question, InZone}
use Rattle.encloser.specs.Wildcard.{wildcard_name}
use Rattle.encloser.proofs.Ancestors.{more_octets, octets_labels}
use Rattle.encloser.proofs.Wildcards.{wildcard_octets, wildcard_names}
use Rattle.covering.specs.NextCloser.{next_closer_of}
use Rattle.covering.specs.Denials.{NextCloser}
use Rattle.covering.proofs.Closers.{proper_closer}
use Rattle.owners.proofs.FoldedNames.{labels_folded}
use Rattle.gaps.specs.Denial.{denial_of}
use Rattle.gaps.specs.DenialGaps.{covered_by, DenialGaps}
use Rattle.gaps.proofs.SameNames.{wildcard_short}
use Rattle.gaps.proofs.Asking.{under_transitive, wildcard_question}
use Rattle.gaps.proofs.Answered.{Answered, denial_answered}
use Rattle.gaps.proofs.DenialGaps.{denial_gaps}
use Rattle.existing.specs.Existing.{Exists, IsClosest}
use Rattle.existing.specs.OnTheSpot.{NamesOf, DeniesMissing}
use Rattle.existing.proofs.OnTheSpotFolded.{covered_folded, under_folded_name, folded_name_under, ancestor_folded, question_folded}

-- what is above a name that exists, and at or under the apex, exists
above_exists : (apex : List ℕ) (names : List (List ℕ)) (name other : List ℕ) → reading_of other ≡ Ok tt → is_under apex other ≡ true
    → is_under other name ≡ true → Exists apex names name → Exists apex names other
above_exists apex names name other w u t x =
    (w, u, (x.2.0, x.2.1, under_transitive other name x.2.0 t x.2.2))

-- a next closer name has more octets than the encloser
closer_longer : (encloser query closer : List ℕ) → reading_of encloser ≡ Ok tt → NextCloser encloser query closer
    → length encloser < length closer
closer_longer encloser query closer w k =
    let e : folded_labels closer ≡ above encloser closer ++ folded_labels encloser = under_labels encloser closer k.under_encloser in
    omega (
      arith,
      more_octets (folded_labels closer) [] (folded_labels closer) (above encloser closer) (folded_labels encloser) refl e
          (omega (arith, k.one_more, length-map (labels_of closer) folded, length-map (labels_of encloser) folded)),
      octets_labels encloser w,
      octets_labels closer k.whole,
    )

module _ (apex : List ℕ) (limit : ℕ) (names : List (List ℕ)) (encloser query : List ℕ) (gaps : List (List ℕ)) (oa : Octets apex)
    (oe : Octets encloser) (oq : Octets query) (n : NamesOf (InZone apex limit) apex names) (c : IsClosest apex names query encloser)
    (none : Exists apex names (wildcard_name encloser) → ⊥) (e : denial_of apex limit encloser query ≡ answer gaps) where
  abbrev closer : List ℕ
  closer = next_closer_of encloser query

  abbrev wildcard : List ℕ
  wildcard = wildcard_name encloser

  a : Answered apex limit encloser query gaps
  a = denial_answered apex limit encloser query gaps oa oq e

  g : DenialGaps apex limit encloser query gaps
  g = denial_gaps apex limit encloser query gaps oa oe oq e

  k : NextCloser encloser query closer
  k = proper_closer encloser query a.proper

  -- nothing that exists is at or under the next closer name
  not_closer : (name : List ℕ) → Exists apex names name → is_under closer name ≡ true → ⊥
  not_closer name x t =
      let u = under_transitive apex encloser closer a.under k.under_encloser in
      let h = c.longest closer (above_exists apex names name closer k.whole u t x) k.above_query in
      omega (arith, closer_longer encloser query closer a.proper.whole_encloser k)

  -- nor at or under the wildcard, which is a name where something of the zone is
  not_wildcard : (name : List ℕ) → Exists apex names name → InZone apex limit (folded name) → is_under wildcard (folded name) ≡ true → ⊥
  not_wildcard name x z t =
      let w = a.proper.whole_encloser in
      let s = wildcard_short encloser (folded name) w z.formed.whole t in
      none (above_exists apex names name wildcard
      (wildcard_names.is_name encloser w (omega (arith, ap length (wildcard_octets encloser w), z.fits, a.question.most)))
      (under_transitive apex encloser wildcard a.under (wildcard_names.is_under_lem encloser w))
      (folded_name_under name x.0 wildcard t) x)

  no_existing : (name : List ℕ) → Exists apex names name → covered_by gaps name ≡ false
  no_existing name x =
      never_true (covered_by gaps name) (λ t. go ((g.covers (folded name) z).0 (covered_folded name x.0 gaps ∙ t)))
    where
      z : InZone apex limit (folded name)
      z =
          ancestor_folded apex limit a.question.apex_formed a.question.most name x.2.0 x.0 x.1
          (n.lie_in x.2.0 x.2.1) x.2.2

      go : (is_under closer (folded name) ≡ true) ⊎ (is_under wildcard (folded name) ≡ true) → ⊥
      go (inl t) = not_closer name x (folded_name_under name x.0 closer t)
      go (inr t) = not_wildcard name x z t

  -- what a question asks for, where it is at or under one of the two
  asked_covered : (name : List ℕ) → Question apex limit name
      → (is_under closer (folded name) ≡ true) ⊎ (is_under wildcard (folded name) ≡ true) → covered_by gaps name ≡ true
  asked_covered name q s =
      sym (covered_folded name q.name_formed.whole gaps) ∙ (g.covers (folded name) (question_folded apex limit name q)).1 s

  pub denies_missing : DeniesMissing apex limit names encloser query gaps
  denies_missing =
      record {
        no_existing = no_existing;
        query_covered =
            asked_covered query a.question
            (inl (under_folded_name query a.question.name_formed.whole closer k.above_query));
        wildcard_covered = λ h.
            let r = wildcard_question apex limit query a.question encloser a.proper a.under oe h in
            asked_covered wildcard r
            (inr (labels_under wildcard (folded wildcard) [] (labels_folded wildcard r.name_formed.whole)));
      }
