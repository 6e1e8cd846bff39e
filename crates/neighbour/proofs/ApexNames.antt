-- The apex in its zone: it is a member, and the one with no label more. So the names with at most one label more, the short set, are the
-- apex and the members with exactly one label more (`short_set_names`, `names_short_set`).
use mathlib.Core.Path.{◌≡◌, sym, ap, ◌∙◌}
use mathlib.Core.List.{List, []}
use mathlib.Core.Logic.{◌⊎◌, inl, inr}
use Prim.Native.Nat.{ℕ, ◌+◌, ◌≤◌}
use native.Mathlib.Decide.{ℕ_discrete}
use native.Mathlib.Omega.{arith}
use borrow.Author.Tests.{leb-true}
use lib.Dec.{leb}
use lib.ListN.{length, take}
use Rattle.name.specs.Labels.{labels_of}
use Rattle.space.specs.Fold.{folded}
use Rattle.name.proofs.Folding.{folded_is_wire}
use Rattle.order.specs.Order.{folded_labels}
use Rattle.zone.specs.Zone.{Member}
use Rattle.checks.specs.Under.{more}
use Rattle.checks.specs.Under.{under}
use Rattle.alphabet.specs.declared.Alphabet.{Alphabet}
use Rattle.alphabet.specs.declared.Alphabet.TheVariants.{Full}
use Rattle.alphabet.specs.Alphabets.{allowed}
use Rattle.neighbour.specs.Nearest.{Question, InZone, InZoneOf}
use Rattle.neighbour.specs.ShortSet.{InShortSet}
use Rattle.facts.proofs.Booleans.{both_true}
use Rattle.neighbour.proofs.ZoneNames.{name_under, member_more, member_zone}
use Rattle.neighbour.proofs.NearestNames.{apex_fits}

module _ (apex : List ℕ) (limit : ℕ) (name : List ℕ) (q : Question apex limit name) where
  apex_member : (alphabet : Alphabet) → Member (allowed alphabet) limit 0 (folded_labels apex) []
  apex_member alphabet = record { sizes = tt; octets = tt; few = omega arith; fits = apex_fits apex limit name q }

  apex_is : folded apex ≡ under apex []
  apex_is = folded_is_wire apex q.apex_formed.whole

  pub apex_in_zone : (alphabet : Alphabet) → InZoneOf alphabet apex limit (folded apex)
  apex_in_zone alphabet = rw apex_is (member_zone apex q.apex_formed alphabet limit 0 q.most [] (apex_member alphabet))

  pub apex_no_more : more apex (folded apex) ≡ 0
  apex_no_more = rw apex_is (member_more apex q.apex_formed Full limit 0 q.most [] (apex_member Full))

  module _ (u : List ℕ) (z : InZone apex limit u) where
    no_more_apex : more apex u ≡ 0 → u ≡ folded apex
    no_more_apex e =
        name_under apex q.apex_formed u z.formed z.under z.folds
        ∙ ap (λ (n : ℕ). under apex (take n (folded_labels u))) e
        ∙ sym apex_is

    at_least : length (labels_of apex) ≤ length (labels_of u)
    at_least =
        let a = length (labels_of apex) in
        let b = length (labels_of u) in
        leb-true a b (both_true (leb a b) _ z.under).0

  pub short_set_names : (u : List ℕ) → InShortSet apex limit u → (u ≡ folded apex) ⊎ (length (labels_of u) ≡ length (labels_of apex) + 1)
  short_set_names u s = go (ℕ_discrete (more apex u) 0)
    where
      go : Dec (more apex u ≡ 0) → (u ≡ folded apex) ⊎ (length (labels_of u) ≡ length (labels_of apex) + 1)
      go (yes e) = inl (no_more_apex u s.zone e)
      go (no ne) = inr (omega (arith, ne, s.few, at_least u s.zone))

  pub names_short_set : (u : List ℕ) → InZone apex limit u → (u ≡ folded apex) ⊎ (length (labels_of u) ≡ length (labels_of apex) + 1)
      → InShortSet apex limit u
  names_short_set u z (inl e) = record { zone = z; few = rw e (omega (arith, apex_no_more)) }
  names_short_set u z (inr e) = record { zone = z; few = omega arith }
