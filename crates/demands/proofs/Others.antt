-- The neighbours of a name are other names: the limit leaves room for a name above the apex, so that no name is the first and the last of
-- its zone, or of its short set.
use mathlib.Core.Path.{◌≡◌, ap, ◌∙◌}
use mathlib.Core.Logic.{◌⊎◌, inl, inr}
use mathlib.Core.List.{List, [], ◌∷◌, map}
use Prim.Native.Nat.{ℕ, ◌≤◌}
use native.Mathlib.Omega.{arith}
use Rattle.std.specs.Prelude.{Ok}
use Rattle.name.specs.Wire.{reading_of}
use Rattle.name.proofs.Folding.{folded_labels_lem}
use Rattle.name.specs.Labels.{labels_of}
use Rattle.space.specs.Fold.{folded}
use Rattle.order.specs.Order.{Before, SortsBefore, folded_labels}
use Rattle.order.proofs.Canonical.{before_irreflexive, before_total, before_under}
use Rattle.zone.specs.Zone.{Member}
use Rattle.alphabet.specs.declared.Alphabet.{Alphabet}
use Rattle.alphabet.specs.Alphabets.{allowed}
use Rattle.alphabet.proofs.Folded.{allowed_hyphen}
use Rattle.checks.specs.Under.{under}
use Rattle.neighbour.specs.Nearest.{Question, InZoneOf, LeastAfter, GreatestBefore}
use Rattle.neighbour.specs.ShortSet.{InShortSetOf}
use Rattle.neighbour.proofs.ZoneNames.{folded_labels_again, folded_labels_length, member_zone, member_labels, member_more}
use Rattle.neighbour.proofs.ApexNames.{apex_in_zone, apex_no_more}

-- ---- in any set with a name after the apex

labels_again : (s : List ℕ) → reading_of s ≡ Ok tt → folded_labels (folded s) ≡ folded_labels s
labels_again s e = ap (map folded) (folded_labels_lem s e) ∙ folded_labels_again (labels_of s)

module _ (In : List ℕ → Type 0) (apex child name : List ℕ) (apex_whole : reading_of apex ≡ Ok tt) (name_whole : reading_of name ≡ Ok tt)
    (first : In (folded apex)) (second : In child) (rises : SortsBefore apex child) (a : List ℕ) (same : a ≡ folded name) where
  labels : folded_labels a ≡ folded_labels name
  labels = ap folded_labels same ∙ labels_again name name_whole

  itself : Before (folded_labels name) (folded_labels name) → ⊥
  itself = before_irreflexive (folded_labels name)

  pub least_other : LeastAfter In apex name a → ⊥
  least_other l = go l.nearest
    where
      go : (SortsBefore name a × ((u : List ℕ) → In u → SortsBefore name u → SortsBefore u a → ⊥))
          ⊎ (((u : List ℕ) → In u → SortsBefore name u → ⊥) × (a ≡ folded apex)) → ⊥
      go (inl (after, none)) = itself (rw labels at after)
      go (inr (none, is)) =
          none child second (rw (← labels, ap folded_labels is ∙ labels_again apex apex_whole) rises)

  pub greatest_other : GreatestBefore In name a → ⊥
  greatest_other g = go g.nearest
    where
      go : (SortsBefore a name × ((u : List ℕ) → In u → SortsBefore a u → SortsBefore u name → ⊥))
          ⊎ (((u : List ℕ) → In u → SortsBefore u name → ⊥) × ((u : List ℕ) → In u → SortsBefore a u → ⊥)) → ⊥
      go (inl (before, none)) = itself (rw labels at before)
      go (inr (none_before, none_after)) = stand (before_total (folded_labels (folded apex)) (folded_labels name))
        where
          stand : Before (folded_labels (folded apex)) (folded_labels name)
              ⊎ ((folded_labels (folded apex) ≡ folded_labels name) ⊎ Before (folded_labels name) (folded_labels (folded apex))) → ⊥
          stand (inl b) = none_before (folded apex) first b
          stand (inr (inl e)) = none_after child second (rw (labels, ← e, labels_again apex apex_whole) rises)
          stand (inr (inr b)) = none_after (folded apex) first (rw labels b)

-- ---- a hyphen above the apex

module _ (alphabet : Alphabet) (apex : List ℕ) (limit : ℕ) (name : List ℕ) (q : Question apex limit name) where
  abbrev child : List ℕ
  child = under apex ((45 ∷ []) ∷ [])

  member : Member (allowed alphabet) limit 1 (folded_labels apex) ((45 ∷ []) ∷ [])
  member =
      record {
        sizes = (omega arith, omega arith, tt);
        octets = ((omega arith, (allowed_hyphen alphabet).1, tt), tt);
        few = omega arith;
        fits = omega (arith, folded_labels_length apex q.apex_formed.whole, q.apex_fits);
      }

  pub child_zone : InZoneOf alphabet apex limit child
  child_zone = member_zone apex q.apex_formed alphabet limit 1 q.most ((45 ∷ []) ∷ []) member

  pub child_short : (depth : ℕ) → 1 ≤ depth → InShortSetOf alphabet depth apex limit child
  child_short depth h = record {
    zone = child_zone;
    few = omega (arith, member_more apex q.apex_formed alphabet limit 1 q.most ((45 ∷ []) ∷ []) member);
  }

  pub child_rises : SortsBefore apex child
  child_rises =
      rw (member_labels apex q.apex_formed alphabet limit 1 q.most ((45 ∷ []) ∷ []) member)
      (before_under ((45 ∷ []) ∷ []) (folded_labels apex) (omega arith))

-- ---- so in the zone and in the short set

module _ (alphabet : Alphabet) (apex : List ℕ) (limit : ℕ) (name : List ℕ) (q : Question apex limit name) (a : List ℕ)
    (same : a ≡ folded name) where
  abbrev one : List ℕ
  one = child alphabet apex limit name q

  rises : SortsBefore apex one
  rises = child_rises alphabet apex limit name q

  module _ (In : List ℕ → Type 0) (first : In (folded apex)) (second : In one) where
    pub after_other : LeastAfter In apex name a → ⊥
    after_other =
        least_other In apex one name q.apex_formed.whole q.name_formed.whole first second rises a same

    pub before_other : GreatestBefore In name a → ⊥
    before_other =
        greatest_other In apex one name q.apex_formed.whole q.name_formed.whole first second rises a same

  apex_zone : InZoneOf alphabet apex limit (folded apex)
  apex_zone = apex_in_zone apex limit name q alphabet

  apex_short : (depth : ℕ) → InShortSetOf alphabet depth apex limit (folded apex)
  apex_short depth = record { zone = apex_zone; few = omega (arith, apex_no_more apex limit name q) }

  pub zone_after_other : LeastAfter (InZoneOf alphabet apex limit) apex name a → ⊥
  zone_after_other = after_other (InZoneOf alphabet apex limit) apex_zone (child_zone alphabet apex limit name q)

  pub zone_before_other : GreatestBefore (InZoneOf alphabet apex limit) name a → ⊥
  zone_before_other = before_other (InZoneOf alphabet apex limit) apex_zone (child_zone alphabet apex limit name q)

  module _ (depth : ℕ) (some : 1 ≤ depth) where
    pub short_after_other : LeastAfter (InShortSetOf alphabet depth apex limit) apex name a → ⊥
    short_after_other =
        after_other (InShortSetOf alphabet depth apex limit) (apex_short depth) (child_short alphabet apex limit name q depth some)

    pub short_before_other : GreatestBefore (InShortSetOf alphabet depth apex limit) name a → ⊥
    short_before_other =
        before_other (InShortSetOf alphabet depth apex limit) (apex_short depth) (child_short alphabet apex limit name q depth some)
