-- The subtree successor is the first name of the zone past the name (`subtree_least`): so are the labels that the steps give at the name's
-- own depth (`next_past`), and names are under each other as their labels above the apex are.
use mathlib.Core.Path.{◌≡◌, sym, ap, ◌∙◌}
use mathlib.Core.List.{List, []}
use mathlib.Core.Bool.{false, true≢false}
use mathlib.Core.Logic.{◌⊎◌, inl, inr}
use Prim.Native.Nat.{ℕ}
use native.Mathlib.Omega.{arith}
use lib.ListN.{length}
use Rattle.facts.proofs.Booleans.{never_true}
use Rattle.space.specs.Fold.{folded}
use Rattle.name.specs.Answer.{answer}
use Rattle.name.proofs.Answers.{answer_injective}
use Rattle.name.proofs.Labels.{at_most_127_labels}
use Rattle.name.proofs.Folding.{folded_is_wire}
use Rattle.order.specs.Order.{SortsBefore, folded_labels}
use Rattle.zone.specs.Zone.{Member}
use Rattle.zone.specs.Steps.{climb, deeper, successor_steps}
use Rattle.alphabet.specs.declared.Alphabet.{Alphabet}
use Rattle.alphabet.specs.Alphabets.{allowed}
use Rattle.checks.specs.Under.{is_under, more, above, under}
use Rattle.covered.specs.Subtree.{AtOrUnder, NonePast, NonePastBefore, NextPast}
use Rattle.covered.specs.Subtree as labels
use Rattle.covered.proofs.Subtree.{next_past}
use Rattle.neighbour.specs.Nearest.{Question, QuestionIn, InZoneOf}
use Rattle.neighbour.proofs.Questions.{question_passes}
use Rattle.neighbour.proofs.ZoneNames.{above_count, member_above, member_under, member_zone}
use Rattle.neighbour.proofs.NearestNames.{Within, successor_labels, successor_next, precedes_sorts, within_member, sorts_precedes}
use Rattle.neighbour.proofs.NearestNames.{sorts_before_member}
use Rattle.subtree.specs.Successor.{subtree_successor_in}
use Rattle.subtree.specs.Past.{Past, LeastPast, SubtreeSuccessors}
use Rattle.subtree.proofs.UnderNames.{labels_above_under, under_labels_above}
-- passed on, so that a wrong step is refused at an example before any law of it is tried
pub use Rattle.subtree.proofs.Examples.{past_child, past_last, past_apex}

module _ (alphabet : Alphabet) (apex : List ℕ) (limit : ℕ) (name : List ℕ) (asked : QuestionIn alphabet apex limit name) where
  abbrev q : Question apex limit name
  q = asked.question

  -- every member has at most 127 labels more than the apex
  pub zone_within : (u : List ℕ) → InZoneOf alphabet apex limit u → Within alphabet apex limit 127 u
  zone_within u z = record { zone = z; few = omega (arith, at_most_127_labels u z.zone.formed.whole) }

  -- what the steps give at the name's own depth
  abbrev past : List (List ℕ)
  past = successor_labels alphabet apex limit name asked (length (above apex name))

  pub subtree_is : subtree_successor_in alphabet apex limit name
      ≡ answer (under apex (successor_labels alphabet apex limit name asked (length (above apex name))))
  unfolding successor_labels
  subtree_is = question_passes apex limit name _ q ∙ rw asked.spelled

  pub subtree_next : NextPast (allowed alphabet) limit 127 (folded_labels apex) (above apex name)
      (successor_labels alphabet apex limit name asked (length (above apex name)))
  subtree_next =
      next_past (allowed alphabet) limit (folded_labels apex) 127 (above apex name)
      (omega (
        arith,
        above_count apex q.apex_formed name q.name_formed q.under,
        at_most_127_labels name q.name_formed.whole,
      ))
      past (successor_next alphabet apex limit name asked (length (above apex name)))

  -- a name of the zone that is past the name, by its labels
  past_labels : (u : List ℕ) → InZoneOf alphabet apex limit u → Past name u
      → labels.Past (allowed alphabet) limit 127 (folded_labels apex) (above apex name) (above apex u)
  past_labels u z p =
      record {
        after = sorts_precedes alphabet apex limit name asked 127 u (zone_within u z) p.after;
        outside = λ a. true≢false (sym (labels_above_under apex name u q.under z.zone.under a) ∙ p.outside);
      }

  -- a member that is not under the name by its labels
  pub member_outside : (ms : List (List ℕ)) → Member (allowed alphabet) limit 127 (folded_labels apex) ms
      → (AtOrUnder (above apex name) ms → ⊥) → is_under name (under apex ms) ≡ false
  member_outside ms m f =
      let under-apex = member_under apex q.apex_formed alphabet limit 127 q.most ms m in
      never_true (is_under name (under apex ms))
      (λ t. f (rw (member_above apex q.apex_formed alphabet limit 127 q.most ms m)
      at (under_labels_above apex name (under apex ms) q.under under-apex t)))

  least_past : LeastPast (InZoneOf alphabet apex limit) apex name (under apex past)
  least_past =
      record {
        member = member_zone apex q.apex_formed alphabet limit 127 q.most past m;
        nearest = near subtree_next.nearest;
      }
    where
      m : Member (allowed alphabet) limit 127 (folded_labels apex) past
      m = subtree_next.member

      near : (labels.Past (allowed alphabet) limit 127 (folded_labels apex) (above apex name) past
          × NonePastBefore (allowed alphabet) limit 127 (folded_labels apex) (above apex name) past)
          ⊎ (NonePast (allowed alphabet) limit 127 (folded_labels apex) (above apex name) × (past ≡ []))
          → (Past name (under apex past)
          × ((u : List ℕ) → InZoneOf alphabet apex limit u → Past name u → SortsBefore u (under apex past) → ⊥))
          ⊎ (((u : List ℕ) → InZoneOf alphabet apex limit u → Past name u → ⊥) × (under apex past ≡ folded apex))
      near (inl n) =
          inl (
            record {
              after = precedes_sorts alphabet apex limit name asked 127 past m n.0.after;
              outside = member_outside past m n.0.outside;
            },
            λ u z p b.
                n.1 (above apex u) (within_member alphabet apex limit name asked 127 u (zone_within u z)) (past_labels u z p)
                (sorts_before_member alphabet apex limit name asked 127 u (zone_within u z) past m b),
          )
      near (inr n) =
          inr (
            λ u z p. n.0 (above apex u) (within_member alphabet apex limit name asked 127 u (zone_within u z)) (past_labels u z p),
            ap (under apex) n.1 ∙ sym (folded_is_wire apex q.apex_formed.whole),
          )

  pub subtree_least : (a : List ℕ) → subtree_successor_in alphabet apex limit name ≡ answer a
      → LeastPast (InZoneOf alphabet apex limit) apex name a
  subtree_least a e = rw (answer_injective (sym e ∙ subtree_is)) least_past

  apex_itself : more apex name ≡ 0 → subtree_successor_in alphabet apex limit name ≡ answer (folded apex)
  unfolding successor_labels successor_steps deeper climb
  apex_itself z =
      subtree_is ∙ ap answer (rw z (sym (folded_is_wire apex q.apex_formed.whole)))

pub subtree_successors : SubtreeSuccessors
subtree_successors =
    record {
      answered = λ alphabet apex limit name q. (
        under apex (successor_labels alphabet apex limit name q (length (above apex name))),
        subtree_is alphabet apex limit name q,
      );
      least = λ alphabet apex limit name a q e. subtree_least alphabet apex limit name q a e;
      of_apex = λ alphabet apex limit name q z. apex_itself alphabet apex limit name q z;
    }
