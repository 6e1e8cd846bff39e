-- The steps give the nearest names: for any alphabet and depth, among the names of the zone with at most so many labels more than the apex,
-- the least after a name, or the apex, and the greatest before it, or the last.
use mathlib.Core.Path.{◌≡◌, sym, ap, ◌∙◌}
use mathlib.Core.List.{List, [], ◌++◌}
use mathlib.Core.Logic.{◌⊎◌, inl, inr}
use Prim.Native.Nat.{ℕ, ◌-◌, ◌≤◌}
use native.Mathlib.Omega.{arith}
use lib.ListN.{length}
use Rattle.name.specs.Labels.{wire}
use Rattle.space.specs.Fold.{folded}
use Rattle.name.proofs.Folding.{folded_is_wire}
use Rattle.order.specs.Order.{SortsBefore, folded_labels}
use Rattle.zone.specs.Zone.{spare, Member, Precedes, NoneBetween, NoneBefore, NoneAfter, Next, Previous}
use Rattle.zone.specs.Steps.{successor_steps, predecessor_steps}
use Rattle.alphabet.specs.declared.Alphabet.{Alphabet}
use Rattle.alphabet.specs.Alphabets.{allowed}
use Rattle.alphabet.proofs.Folded.{allowed_hyphen}
use Rattle.zone.proofs.StepsNearest.{steps_next, steps_previous}
use Rattle.checks.specs.Under.{more, above}
use Rattle.checks.specs.Under.{under}
use Rattle.neighbour.specs.Nearest.{Question, QuestionIn, InZoneOf, LeastAfter, GreatestBefore}
use Rattle.neighbour.proofs.ZoneNames.{folded_labels_length, name_parts, name_member, name_length, member_labels, member_more}
use Rattle.neighbour.proofs.ZoneNames.{member_zone}

-- the names of a zone that keeps to an alphabet, with at most `depth` labels more than the apex
pub record Within (alphabet : Alphabet) (apex : List ℕ) (limit depth : ℕ) (name : List ℕ) : Type 0 where
  pub zone : InZoneOf alphabet apex limit name
  pub few : more apex name ≤ depth

module _ (apex : List ℕ) (limit : ℕ) (name : List ℕ) (q : Question apex limit name) where
  pub room_is_spare : limit - length apex ≡ spare limit (folded_labels apex)
  room_is_spare = ap (λ (n : ℕ). limit - n) (sym (folded_labels_length apex q.apex_formed.whole))

  pub apex_fits : length (wire (folded_labels apex)) ≤ limit
  apex_fits = rw (folded_labels_length apex q.apex_formed.whole) (omega (arith, q.apex_fits))

module _ (alphabet : Alphabet) (apex : List ℕ) (limit : ℕ) (name : List ℕ) (asked : QuestionIn alphabet apex limit name) (depth : ℕ) where
  abbrev q : Question apex limit name
  q = asked.question

  -- a name's order to a member, as labels and as octets
  module _ (ms : List (List ℕ)) (m : Member (allowed alphabet) limit depth (folded_labels apex) ms) where
    pub precedes_sorts : Precedes (allowed alphabet) limit depth (folded_labels apex) (above apex name) ms
        → SortsBefore name (under apex ms)
    precedes_sorts p =
        rw (
          name_parts apex q.apex_formed name q.name_formed q.under,
          member_labels apex q.apex_formed alphabet limit depth q.most ms m,
        ) p

    pub follows_sorts : Precedes (allowed alphabet) limit depth (folded_labels apex) ms (above apex name) → SortsBefore (under apex ms) name
    follows_sorts p =
        rw (
          name_parts apex q.apex_formed name q.name_formed q.under,
          member_labels apex q.apex_formed alphabet limit depth q.most ms m,
        ) p

  module _ (u : List ℕ) (w : Within alphabet apex limit depth u) where
    pub within_member : Member (allowed alphabet) limit depth (folded_labels apex) (above apex u)
    within_member =
        let z = w.zone.zone in
        name_member apex q.apex_formed u z.formed z.under alphabet w.zone.spelled limit depth z.fits w.few

    parts : folded_labels u ≡ above apex u ++ folded_labels apex
    parts = name_parts apex q.apex_formed u w.zone.zone.formed w.zone.zone.under

    pub sorts_precedes : SortsBefore name u → Precedes (allowed alphabet) limit depth (folded_labels apex) (above apex name) (above apex u)
    sorts_precedes p = rw (name_parts apex q.apex_formed name q.name_formed q.under, parts) at p

    pub sorts_follows : SortsBefore u name → Precedes (allowed alphabet) limit depth (folded_labels apex) (above apex u) (above apex name)
    sorts_follows p = rw (name_parts apex q.apex_formed name q.name_formed q.under, parts) at p

    module _ (ms : List (List ℕ)) (m : Member (allowed alphabet) limit depth (folded_labels apex) ms) where
      pub sorts_before_member : SortsBefore u (under apex ms)
          → Precedes (allowed alphabet) limit depth (folded_labels apex) (above apex u) ms
      sorts_before_member p = rw (parts, member_labels apex q.apex_formed alphabet limit depth q.most ms m) at p

      pub sorts_after_member : SortsBefore (under apex ms) u
          → Precedes (allowed alphabet) limit depth (folded_labels apex) ms (above apex u)
      sorts_after_member p = rw (parts, member_labels apex q.apex_formed alphabet limit depth q.most ms m) at p

  query : Member (allowed alphabet) limit (more apex name) (folded_labels apex) (above apex name)
  query =
      name_member apex q.apex_formed name q.name_formed q.under alphabet asked.spelled limit (more apex name) q.name_fits
      (omega arith)

  member_within : (ms : List (List ℕ)) → Member (allowed alphabet) limit depth (folded_labels apex) ms
      → Within alphabet apex limit depth (under apex ms)
  member_within ms m =
      record {
        zone = member_zone apex q.apex_formed alphabet limit depth q.most ms m;
        few = rw (member_more apex q.apex_formed alphabet limit depth q.most ms m) m.few;
      }

  -- ---- the successor

  unfoldable pub successor_labels : List (List ℕ)
  successor_labels = successor_steps (allowed alphabet) (limit - length apex) depth (above apex name)

  pub successor_next : Next (allowed alphabet) limit depth (folded_labels apex) (above apex name) successor_labels
  unfolding successor_labels
  successor_next =
      rw (room_is_spare apex limit name q)
      (steps_next (allowed alphabet) 45 (allowed_hyphen alphabet) limit depth (folded_labels apex) (apex_fits apex limit name q)
      (above apex name) query.sizes query.octets
      (rw (name_length apex q.apex_formed name q.name_formed q.under) q.name_fits))

  pub successor_least : LeastAfter (Within alphabet apex limit depth) apex name (under apex successor_labels)
  successor_least =
      record { member = member_within successor_labels m; nearest = near successor_next.nearest }
    where
      m : Member (allowed alphabet) limit depth (folded_labels apex) successor_labels
      m = successor_next.member

      near : (Precedes (allowed alphabet) limit depth (folded_labels apex) (above apex name) successor_labels
          × NoneBetween (allowed alphabet) limit depth (folded_labels apex) (above apex name) successor_labels)
          ⊎ (NoneAfter (allowed alphabet) limit depth (folded_labels apex) (above apex name) × (successor_labels ≡ []))
          → (SortsBefore name (under apex successor_labels)
          × ((u : List ℕ) → Within alphabet apex limit depth u → SortsBefore name u → SortsBefore u (under apex successor_labels) → ⊥))
          ⊎ (((u : List ℕ) → Within alphabet apex limit depth u → SortsBefore name u → ⊥) × (under apex successor_labels ≡ folded apex))
      near (inl h) =
          inl (
            precedes_sorts successor_labels m h.0,
            λ u w a b. h.1 (above apex u) (within_member u w) (sorts_precedes u w a) (sorts_before_member u w successor_labels m b),
          )
      near (inr h) =
          inr (
            λ u w a. h.0 (above apex u) (within_member u w) (sorts_precedes u w a),
            ap (under apex) h.1 ∙ sym (folded_is_wire apex q.apex_formed.whole),
          )

  -- ---- the predecessor

  unfoldable pub predecessor_labels : List (List ℕ)
  predecessor_labels = predecessor_steps (allowed alphabet) (limit - length apex) depth (above apex name)

  pub predecessor_previous : Previous (allowed alphabet) limit depth (folded_labels apex) (above apex name) predecessor_labels
  unfolding predecessor_labels
  predecessor_previous =
      rw (room_is_spare apex limit name q)
      (steps_previous (allowed alphabet) 45 (allowed_hyphen alphabet) limit depth (folded_labels apex) (apex_fits apex limit name q)
      (above apex name) query.sizes query.octets
      (rw (name_length apex q.apex_formed name q.name_formed q.under) q.name_fits))

  pub predecessor_greatest : GreatestBefore (Within alphabet apex limit depth) name (under apex predecessor_labels)
  predecessor_greatest =
      record { member = member_within predecessor_labels m; nearest = near predecessor_previous.nearest }
    where
      m : Member (allowed alphabet) limit depth (folded_labels apex) predecessor_labels
      m = predecessor_previous.member

      near : (Precedes (allowed alphabet) limit depth (folded_labels apex) predecessor_labels (above apex name)
          × NoneBetween (allowed alphabet) limit depth (folded_labels apex) predecessor_labels (above apex name))
          ⊎ (NoneBefore (allowed alphabet) limit depth (folded_labels apex) (above apex name)
          × NoneAfter (allowed alphabet) limit depth (folded_labels apex) predecessor_labels)
          → (SortsBefore (under apex predecessor_labels) name
          × ((u : List ℕ) → Within alphabet apex limit depth u → SortsBefore (under apex predecessor_labels) u → SortsBefore u name → ⊥))
          ⊎ (((u : List ℕ) → Within alphabet apex limit depth u → SortsBefore u name → ⊥)
          × ((u : List ℕ) → Within alphabet apex limit depth u → SortsBefore (under apex predecessor_labels) u → ⊥))
      near (inl h) =
          inl (
            follows_sorts predecessor_labels m h.0,
            λ u w a b. h.1 (above apex u) (within_member u w) (sorts_after_member u w predecessor_labels m a) (sorts_follows u w b),
          )
      near (inr h) =
          inr (
            λ u w a. h.0 (above apex u) (within_member u w) (sorts_follows u w a),
            λ u w a. h.1 (above apex u) (within_member u w) (sorts_after_member u w predecessor_labels m a),
          )
