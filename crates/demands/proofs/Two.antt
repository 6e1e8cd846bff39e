-- Demand 2 holds: it is what holds over the alphabet and the depth, at the full one and at depth 1.
use mathlib.Core.Path.{◌≡◌, sym, ap, ◌∙◌}
use mathlib.Core.List.{List, [], ◌∷◌, ◌++◌}
use Prim.Native.Nat.{ℕ, ◌+◌, ◌≤◌}
use native.Mathlib.Omega.{arith}
use lib.ListN.{length, replicate}
use Rattle.space.specs.Fold.{folded}
use Rattle.name.specs.Answer.{answer}
use Rattle.order.specs.Order.{SortsBefore, folded_labels}
use Rattle.order.proofs.Canonical.{before_irreflexive, before_transitive, before_under}
use Rattle.zone.proofs.FullAlphabet.{least_full, greatest_full}
use Rattle.alphabet.specs.declared.Alphabet.TheVariants.{Full}
use Rattle.checks.specs.Under.{more, above}
use Rattle.checks.proofs.UnderLabels.{under_labels, labels_under}
use Rattle.neighbour.specs.Neighbour.{successor_of, predecessor_of}
use Rattle.neighbour.specs.Modified.{modified_successor_of, modified_predecessor_of}
use Rattle.neighbour.specs.ShortSet.{InShortSet, InShortSetOf}
use Rattle.neighbour.specs.Nearest.{Question, QuestionIn, InZone, InZoneOf, LeastAfter, GreatestBefore}
use Rattle.neighbour.proofs.FullAlphabet.{full_question, full_zone, full_successor, full_predecessor, full_modified_successor}
use Rattle.neighbour.proofs.FullAlphabet.{full_modified_predecessor}
use Rattle.neighbour.proofs.ZoneNames.{name_parts}
use Rattle.neighbour.proofs.ApexNames.{apex_in_zone, short_set_names, names_short_set}
use Rattle.neighbour.proofs.Questions.{least_same, greatest_same}
use Rattle.demands.specs.Alphabets.{Deep, NeighboursIn}
use Rattle.demands.specs.DemandTwo.{DemandTwo}
use Rattle.demands.proofs.AlphabetsHold.{neighbours_in}

abbrev holds : NeighboursIn Full
holds = neighbours_in Full

-- ---- the sets of the full alphabet are document 01's

module _ (apex : List ℕ) (limit : ℕ) where
  zone_to : (u : List ℕ) → InZoneOf Full apex limit u → InZone apex limit u
  zone_to u z = z.zone

  zone_from : (u : List ℕ) → InZone apex limit u → InZoneOf Full apex limit u
  zone_from u z = full_zone apex limit u z

  short_to : (u : List ℕ) → InShortSetOf Full 1 apex limit u → InShortSet apex limit u
  short_to u s = record { zone = s.zone.zone; few = s.few }

  short_from : (u : List ℕ) → InShortSet apex limit u → InShortSetOf Full 1 apex limit u
  short_from u s = record { zone = full_zone apex limit u s.zone; few = s.few }

  module _ (name : List ℕ) (w : Question apex limit name) where
    abbrev q : QuestionIn Full apex limit name
    q = full_question apex limit name w

    module _ (a : List ℕ) where
      successor_least_zone : successor_of apex limit name ≡ answer a → LeastAfter (InZone apex limit) apex name a
      successor_least_zone e =
          least_same (InZoneOf Full apex limit) (InZone apex limit) zone_to zone_from
          (holds.successor apex limit name a q (full_successor apex limit name ∙ e))

      predecessor_greatest_zone : predecessor_of apex limit name ≡ answer a → GreatestBefore (InZone apex limit) name a
      predecessor_greatest_zone e =
          greatest_same (InZoneOf Full apex limit) (InZone apex limit) zone_to zone_from
          (holds.predecessor apex limit name a q (full_predecessor apex limit name ∙ e))

      modified_successor_least : modified_successor_of apex limit name ≡ answer a → LeastAfter (InShortSet apex limit) apex name a
      modified_successor_least e =
          least_same (InShortSetOf Full 1 apex limit) (InShortSet apex limit) short_to short_from
          (holds.modified_successor 1 apex limit name a q (full_modified_successor apex limit name ∙ e))

      modified_predecessor_greatest : modified_predecessor_of apex limit name ≡ answer a → GreatestBefore (InShortSet apex limit) name a
      modified_predecessor_greatest e =
          greatest_same (InShortSetOf Full 1 apex limit) (InShortSet apex limit) short_to short_from
          (holds.modified_predecessor 1 apex limit name a q (full_modified_predecessor apex limit name ∙ e))

      successor_back : successor_of apex limit name ≡ answer a → predecessor_of apex limit a ≡ answer (folded name)
      successor_back e =
          sym (full_predecessor apex limit a) ∙ holds.successor_back apex limit name a q (full_successor apex limit name ∙ e)

      predecessor_back : predecessor_of apex limit name ≡ answer a → successor_of apex limit a ≡ answer (folded name)
      predecessor_back e =
          sym (full_successor apex limit a) ∙ holds.predecessor_back apex limit name a q (full_predecessor apex limit name ∙ e)

      module _ (few : more apex name ≤ 1) where
        modified_successor_back : modified_successor_of apex limit name ≡ answer a
            → modified_predecessor_of apex limit a ≡ answer (folded name)
        modified_successor_back e =
            sym (full_modified_predecessor apex limit a)
            ∙ holds.modified_successor_back 1 apex limit name a q few (full_modified_successor apex limit name ∙ e)

        modified_predecessor_back : modified_predecessor_of apex limit name ≡ answer a
            → modified_successor_of apex limit a ≡ answer (folded name)
        modified_predecessor_back e =
            sym (full_modified_successor apex limit a)
            ∙ holds.modified_predecessor_back 1 apex limit name a q few (full_modified_predecessor apex limit name ∙ e)

    successor_is : (a : List ℕ) × (successor_of apex limit name ≡ answer a)
    successor_is = let r = holds.successor_answered apex limit name q in (r.0, sym (full_successor apex limit name) ∙ r.1)

    predecessor_is : (a : List ℕ) × (predecessor_of apex limit name ≡ answer a)
    predecessor_is = let r = holds.predecessor_answered apex limit name q in (r.0, sym (full_predecessor apex limit name) ∙ r.1)

    module _ (full_label : length apex + 64 ≤ limit) where
      deep : Deep 1 apex limit
      deep = record { some = omega arith; most = omega arith; fits = full_label }

      modified_answered : ((a : List ℕ) × (modified_successor_of apex limit name ≡ answer a))
          × ((a : List ℕ) × (modified_predecessor_of apex limit name ≡ answer a))
      modified_answered =
          let r = holds.modified_answered 1 apex limit name q deep in (
            (r.0.0, sym (full_modified_successor apex limit name) ∙ r.0.1),
            (r.1.0, sym (full_modified_predecessor apex limit name) ∙ r.1.1),
          )

      module _ (z : more apex name ≡ 0) where
        modified_apex_successor : modified_successor_of apex limit name ≡ answer (1 ∷ 0 ∷ folded apex)
        modified_apex_successor =
            sym (full_modified_successor apex limit name)
            ∙ holds.modified_apex_successor 1 apex limit name q deep z
            ∙ ap (λ (o : ℕ). answer (1 ∷ o ∷ folded apex)) least_full

        modified_apex_predecessor : modified_predecessor_of apex limit name ≡ answer (63 ∷ replicate 63 255 ++ folded apex)
        modified_apex_predecessor =
            sym (full_modified_predecessor apex limit name)
            ∙ holds.modified_apex_predecessor apex limit name q full_label z
            ∙ ap (λ (o : ℕ). answer (63 ∷ replicate 63 o ++ folded apex)) greatest_full

-- ---- the apex

module _ (apex : List ℕ) (limit : ℕ) (name : List ℕ) (q : Question apex limit name) where
  apex_least : (u : List ℕ) → InZone apex limit u → SortsBefore u apex → ⊥
  apex_least u z b = go (above apex u) (name_parts apex q.apex_formed u z.formed z.under)
    where
      go : (us : List (List ℕ)) → folded_labels u ≡ us ++ folded_labels apex → ⊥
      go [] e = before_irreflexive (folded_labels apex) (rw e at b)
      go (l ∷ us) e =
          before_irreflexive (folded_labels apex)
          (before_transitive (folded_labels apex) ((l ∷ us) ++ folded_labels apex) (folded_labels apex)
          (before_under (l ∷ us) (folded_labels apex) (omega arith)) (rw e at b))

pub demand_two : DemandTwo
demand_two =
    record {
      under = λ apex name. (λ h. (above apex name, under_labels apex name h), λ h. labels_under apex name h.0 h.1);
      successor_answered = successor_is;
      predecessor_answered = predecessor_is;
      successor = λ apex limit name a q e. successor_least_zone apex limit name q a e;
      predecessor = λ apex limit name a q e. predecessor_greatest_zone apex limit name q a e;
      successor_back = λ apex limit name a q e. successor_back apex limit name q a e;
      predecessor_back = λ apex limit name a q e. predecessor_back apex limit name q a e;
      successor_other = λ apex limit name a q e.
          holds.successor_other apex limit name a (full_question apex limit name q) (full_successor apex limit name ∙ e);
      predecessor_other = λ apex limit name a q e.
          holds.predecessor_other apex limit name a (full_question apex limit name q) (full_predecessor apex limit name ∙ e);
      modified_successor_other = λ apex limit name a q e.
          holds.modified_successor_other 1 apex limit name a (full_question apex limit name q)
          (full_modified_successor apex limit name ∙ e);
      modified_predecessor_other = λ apex limit name a q e.
          holds.modified_predecessor_other 1 apex limit name a (full_question apex limit name q)
          (full_modified_predecessor apex limit name ∙ e);
      modified_answered = modified_answered;
      modified_successor = λ apex limit name a q e. modified_successor_least apex limit name q a e;
      modified_predecessor = λ apex limit name a q e. modified_predecessor_greatest apex limit name q a e;
      modified_successor_back = λ apex limit name a q few e. modified_successor_back apex limit name q a few e;
      modified_predecessor_back = λ apex limit name a q few e. modified_predecessor_back apex limit name q a few e;
      modified_apex_successor = modified_apex_successor;
      modified_apex_predecessor = modified_apex_predecessor;
      short_set = λ apex limit name u q. (
        λ s. (s.zone, short_set_names apex limit name q u s),
        λ h. names_short_set apex limit name q u h.0 h.1,
      );
      apex_member = λ apex limit name q. (apex_in_zone apex limit name q Full).zone;
      apex_least = λ apex limit name u q. apex_least apex limit name q u;
    }
