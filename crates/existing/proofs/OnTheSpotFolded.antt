-- Letter case does not count: a gap covers a name where it covers the folded one (`covered_folded`), and what a question asks for lies in
-- the zone once it is folded (`question_folded`), as each name above one of the zone does (`ancestor_folded`).
use mathlib.Core.Path.{◌≡◌, refl, sym, ap, ◌∙◌}
use mathlib.Core.List.{List, [], ◌∷◌}
use mathlib.Core.Bool.{true}
use Prim.Native.Nat.{ℕ, ◌≤◌}
use native.Mathlib.Omega.{arith}
use lib.ListN.{length, length-append}
use Rattle.space.specs.Fold.{folded}
use Rattle.std.specs.Prelude.{Ok}
use Rattle.name.specs.Wire.{reading_of}
use Rattle.name.specs.WellFormed.{WellFormed}
use Rattle.name.specs.Labels.{wire}
use Rattle.name.proofs.Folding.{folded_is_wire}
use Rattle.name.proofs.Labels.{at_most_127_labels}
use Rattle.order.specs.Order.{folded_labels}
use Rattle.order.specs.Place.{full}
use Rattle.zone.specs.Zone.{Member}
use Rattle.checks.specs.Under.{is_under, above, under}
use Rattle.checks.proofs.UnderLabels.{under_labels, labels_under}
use Rattle.alphabet.specs.declared.Alphabet.TheVariants.{Full}
use Rattle.neighbour.specs.Nearest.{Question, InZone}
use Rattle.neighbour.proofs.FullAlphabet.{full_above}
use Rattle.neighbour.proofs.ZoneNames.{name_member, member_zone}
use Rattle.covered.specs.Subtree.{AtOrUnder}
use Rattle.covered.proofs.Subtree.{member_parent}
use Rattle.subtree.proofs.UnderNames.{under_labels_above}
use Rattle.owners.proofs.FoldedNames.{reading_folded, labels_folded}
use Rattle.covering.specs.Between.{covers_of}
use Rattle.gaps.specs.DenialGaps.{covered_by}

module _ (u : List ℕ) (whole : reading_of u ≡ Ok tt) where
  pub covers_folded : (owner next : List ℕ) → covers_of owner next (folded u) ≡ covers_of owner next u
  covers_folded owner next = rw (reading_folded u, labels_folded u whole)

  pub covered_folded : (names : List (List ℕ)) → covered_by names (folded u) ≡ covered_by names u
  covered_folded [] = refl
  covered_folded (owner ∷ []) = refl
  covered_folded (owner ∷ next ∷ names) = rw (covers_folded owner next, covered_folded names)

  pub under_folded_name : (name : List ℕ) → is_under name u ≡ true → is_under name (folded u) ≡ true
  under_folded_name name t = labels_under name (folded u) (above name u) (labels_folded u whole ∙ under_labels name u t)

  pub folded_name_under : (name : List ℕ) → is_under name (folded u) ≡ true → is_under name u ≡ true
  folded_name_under name t = labels_under name u (above name (folded u)) (sym (labels_folded u whole) ∙ under_labels name (folded u) t)

module _ (apex : List ℕ) (limit : ℕ) (formed : WellFormed apex) (most : limit ≤ 255) where
  -- a name whose labels above the apex are those of a member
  member_folded : (name : List ℕ) → reading_of name ≡ Ok tt → is_under apex name ≡ true
      → Member full limit 127 (folded_labels apex) (above apex name) → InZone apex limit (folded name)
  member_folded name whole h m =
      let e : folded name ≡ under apex (above apex name) = folded_is_wire name whole ∙ ap wire (under_labels apex name h) in
      rw e (member_zone apex formed Full limit 127 most (above apex name) m).zone

  pub ancestor_folded : (name owner : List ℕ) → reading_of name ≡ Ok tt → is_under apex name ≡ true → InZone apex limit owner
      → is_under name owner ≡ true → InZone apex limit (folded name)
  ancestor_folded name owner whole h z t = member_folded name whole h (go (under_labels_above apex name owner h z.under t))
    where
      m : Member full limit 127 (folded_labels apex) (above apex owner)
      m =
          name_member apex formed owner z.formed z.under Full (full_above apex owner) limit 127 z.fits
          (omega (arith, at_most_127_labels owner z.formed.whole))

      go : AtOrUnder (above apex name) (above apex owner) → Member full limit 127 (folded_labels apex) (above apex name)
      go (vs, e) =
          member_parent full limit (folded_labels apex) 127 127 vs (above apex name) (rw e at m)
          (omega (arith, m.few, ap length e, length-append vs (above apex name)))

pub question_folded : (apex : List ℕ) (limit : ℕ) (name : List ℕ) → Question apex limit name → InZone apex limit (folded name)
question_folded apex limit name q =
    member_folded apex limit q.apex_formed q.most name q.name_formed.whole q.under
    (name_member apex q.apex_formed name q.name_formed q.under Full (full_above apex name) limit 127 q.name_fits
    (omega (arith, at_most_127_labels name q.name_formed.whole)))
