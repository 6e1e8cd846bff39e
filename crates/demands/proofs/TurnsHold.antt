-- Every name gets its turn: the successors of labels go round the members of the zone (`turns_reach`), and the operations take the same
-- steps over names (`leads_times`); that each undoes the other gives the rest.
use mathlib.Core.Path.{◌≡◌, refl, sym, ap, ◌∙◌}
use mathlib.Core.List.{List}
use Prim.Native.Nat.{ℕ, zero, suc, ◌-◌}
use native.Mathlib.Omega.{arith}
use lib.ListN.{length}
use Rattle.name.specs.Answer.{Result, answer}
use Rattle.order.specs.Order.{folded_labels}
use Rattle.zone.specs.Zone.{spare, successor_of as labels_after, successor_times, Member}
use Rattle.zone.specs.Steps.{successor_steps}
use Rattle.zone.proofs.Bridge.{wire_append}
use Rattle.zone.proofs.Steps.{successor_steps_lem}
use Rattle.zone.proofs.Zones.{successor_next}
use Rattle.zone.proofs.Turns.{turns_reach}
use Rattle.alphabet.specs.declared.Alphabet.{Alphabet}
use Rattle.alphabet.specs.declared.Alphabet.TheVariants.{Full}
use Rattle.alphabet.specs.Alphabets.{allowed}
use Rattle.alphabet.proofs.Folded.{allowed_hyphen}
use Rattle.checks.specs.Under.{above, under}
use Rattle.neighbour.specs.Neighbour.{successor_of, predecessor_of, successor_in, predecessor_in}
use Rattle.neighbour.specs.Modified.{modified_successor_in, modified_predecessor_in}
use Rattle.neighbour.specs.ShortSet.{InShortSetOf}
use Rattle.neighbour.specs.Nearest.{Question, QuestionIn, InZone, InZoneOf}
use Rattle.neighbour.proofs.FullAlphabet.{full_zone, full_successor, full_predecessor}
use Rattle.neighbour.proofs.ZoneNames.{name_member, name_under, member_above, member_zone}
use Rattle.neighbour.proofs.NearestNames.{Within, room_is_spare, apex_fits, successor_labels}
use Rattle.neighbour.proofs.ModifiedNames.{modified_successor_answered}
use Rattle.neighbour.proofs.Depths.{depth_passes}
use Rattle.neighbour.proofs.Questions.{question_passes, member_question}
use Rattle.demands.specs.Alphabets.{Deep, NeighboursIn}
use Rattle.demands.specs.Turns.{Leads, GoesRound, Turns}
use Rattle.demands.proofs.AlphabetsHold.{few_labels, neighbours_in}
use Rattle.demands.proofs.Rounds.{Undone, round, round_back, round_same}

leads_same : (step : List ℕ → Result (List ℕ)) (k : ℕ) {s u t v : List ℕ} → s ≡ u → t ≡ v → Leads step k s t → Leads step k u v
leads_same step k e f a = rw (← e, ← f) a

module _ (alphabet : Alphabet) (apex : List ℕ) (limit : ℕ) (name : List ℕ) (q : Question apex limit name) (depth : ℕ) where
  abbrev MemberOf : List (List ℕ) → Type 0
  MemberOf = Member (allowed alphabet) limit depth (folded_labels apex)

  -- the successor of a member's labels by the steps
  steps_after : (ls : List (List ℕ)) → MemberOf ls
      → successor_steps (allowed alphabet) (limit - length apex) depth ls
      ≡ labels_after (allowed alphabet) (spare limit (folded_labels apex)) depth ls
  steps_after ls m =
      rw (room_is_spare apex limit name q)
      (successor_steps_lem (allowed alphabet) 45 (allowed_hyphen alphabet) (spare limit (folded_labels apex)) depth ls m.sizes m.octets
      (omega (arith, wire_append ls (folded_labels apex), m.fits, apex_fits apex limit name q)))

  after_member : (ls : List (List ℕ)) → MemberOf (labels_after (allowed alphabet) (spare limit (folded_labels apex)) depth ls)
  after_member ls = (successor_next (allowed alphabet) limit depth (folded_labels apex) (apex_fits apex limit name q) ls).member

  within : (u : List ℕ) → Within alphabet apex limit depth u → MemberOf (above apex u)
  within u w =
      let z = w.zone.zone in
      name_member apex q.apex_formed u z.formed z.under alphabet w.zone.spelled limit depth z.fits w.few

  named : (u : List ℕ) → Within alphabet apex limit depth u → u ≡ under apex (above apex u)
  named u w = let z = w.zone.zone in name_under apex q.apex_formed u z.formed z.under z.folds

  -- an operation that answers members by the steps
  module _ (step : List ℕ → Result (List ℕ))
      (steps : (u : List ℕ) → QuestionIn alphabet apex limit u
      → step u ≡ answer (under apex (successor_steps (allowed alphabet) (limit - length apex) depth (above apex u)))) where
    leads_times : (k : ℕ) (ls : List (List ℕ)) → MemberOf ls
        → Leads step k (under apex ls)
        (under apex (successor_times (allowed alphabet) (spare limit (folded_labels apex)) depth k ls))
    unfolding successor_times
    leads_times zero ls m = refl
    leads_times (suc k) ls m =
        let z = member_zone apex q.apex_formed alphabet limit depth q.most ls m in (
          under apex (labels_after (allowed alphabet) (spare limit (folded_labels apex)) depth ls),
          steps (under apex ls) (record { question = member_question q (under apex ls) z.zone; spelled = z.spelled })
              ∙ ap (λ (x : List (List ℕ)). answer (under apex (successor_steps (allowed alphabet) (limit - length apex) depth x)))
              (member_above apex q.apex_formed alphabet limit depth q.most ls m)
              ∙ ap (λ (x : List (List ℕ)). answer (under apex x)) (steps_after ls m),
          leads_times k (labels_after (allowed alphabet) (spare limit (folded_labels apex)) depth ls) (after_member ls),
        )

    pub steps_reach : (s t : List ℕ) → Within alphabet apex limit depth s → Within alphabet apex limit depth t → (k : ℕ) × Leads step k s t
    steps_reach s t a b =
        let r = turns_reach (allowed alphabet) limit depth (folded_labels apex) (above apex s) (above apex t) (within s a) (within t b) in (
          r.0,
          leads_same step r.0 (sym (named s a)) (ap (under apex) r.1 ∙ sym (named t b))
              (leads_times r.0 (above apex s) (within s a)),
        )

-- ---- the operations

module _ (alphabet : Alphabet) (apex : List ℕ) (limit : ℕ) (name : List ℕ) (q : Question apex limit name) where
  abbrev holds : NeighboursIn alphabet
  holds = neighbours_in alphabet

  asked : (u : List ℕ) → InZoneOf alphabet apex limit u → QuestionIn alphabet apex limit u
  asked u z = record { question = member_question q u z.zone; spelled = z.spelled }

  -- the absolute ones

  successor_undone : Undone (InZoneOf alphabet apex limit) (successor_in alphabet apex limit) (predecessor_in alphabet apex limit)
  successor_undone =
      record {
        answered = λ s z. let r = holds.successor_answered apex limit s (asked s z) in (
          r.0,
          r.1,
          (holds.successor apex limit s r.0 (asked s z) r.1).member,
          holds.successor_back apex limit s r.0 (asked s z) r.1 ∙ ap answer z.zone.folds,
        );
      }

  predecessor_undone : Undone (InZoneOf alphabet apex limit) (predecessor_in alphabet apex limit) (successor_in alphabet apex limit)
  predecessor_undone =
      record {
        answered = λ s z. let r = holds.predecessor_answered apex limit s (asked s z) in (
          r.0,
          r.1,
          (holds.predecessor apex limit s r.0 (asked s z) r.1).member,
          holds.predecessor_back apex limit s r.0 (asked s z) r.1 ∙ ap answer z.zone.folds,
        );
      }

  reaches : (s t : List ℕ) → InZoneOf alphabet apex limit s → InZoneOf alphabet apex limit t
      → (k : ℕ) × Leads (successor_in alphabet apex limit) k s t
  reaches s t a b =
      steps_reach alphabet apex limit name q 127 (successor_in alphabet apex limit)
      (λ u v. question_passes apex limit u _ v.question ∙ rw v.spelled) s t
      (record { zone = a; few = few_labels apex s a.zone.formed }) (record { zone = b; few = few_labels apex t b.zone.formed })

  successors_in : GoesRound (InZoneOf alphabet apex limit) (successor_in alphabet apex limit)
  successors_in =
      round (InZoneOf alphabet apex limit) (successor_in alphabet apex limit) (predecessor_in alphabet apex limit) successor_undone
      predecessor_undone reaches

  predecessors_in : GoesRound (InZoneOf alphabet apex limit) (predecessor_in alphabet apex limit)
  predecessors_in =
      round_back (InZoneOf alphabet apex limit) (successor_in alphabet apex limit) (predecessor_in alphabet apex limit) successor_undone
      predecessor_undone reaches

  -- the modified ones

  module _ (depth : ℕ) (deep : Deep depth apex limit) where
    abbrev Short : List ℕ → Type 0
    Short = InShortSetOf alphabet depth apex limit

    abbrev after : List ℕ → Result (List ℕ)
    after = modified_successor_in alphabet depth apex limit

    abbrev before : List ℕ → Result (List ℕ)
    before = modified_predecessor_in alphabet depth apex limit

    modified_successor_undone : Undone Short after before
    modified_successor_undone =
        record {
          answered = λ s z. let v = asked s z.zone in let r = (holds.modified_answered depth apex limit s v deep).0 in (
            r.0,
            r.1,
            (holds.modified_successor depth apex limit s r.0 v r.1).member,
            holds.modified_successor_back depth apex limit s r.0 v z.few r.1 ∙ ap answer z.zone.zone.folds,
          );
        }

    modified_predecessor_undone : Undone Short before after
    modified_predecessor_undone =
        record {
          answered = λ s z. let v = asked s z.zone in let r = (holds.modified_answered depth apex limit s v deep).1 in (
            r.0,
            r.1,
            (holds.modified_predecessor depth apex limit s r.0 v r.1).member,
            holds.modified_predecessor_back depth apex limit s r.0 v z.few r.1 ∙ ap answer z.zone.zone.folds,
          );
        }

    modified_reaches : (s t : List ℕ) → Short s → Short t → (k : ℕ) × Leads after k s t
    unfolding successor_labels
    modified_reaches s t a b =
        steps_reach alphabet apex limit name q depth after
        (λ u v. modified_successor_answered alphabet depth apex limit u v
        (depth_passes depth apex limit deep.some deep.most deep.fits))
        s t (record { zone = a.zone; few = a.few }) (record { zone = b.zone; few = b.few })

    modified_successors : GoesRound Short after
    modified_successors = round Short after before modified_successor_undone modified_predecessor_undone modified_reaches

    modified_predecessors : GoesRound Short before
    modified_predecessors = round_back Short after before modified_successor_undone modified_predecessor_undone modified_reaches

pub turns : Turns
turns =
    record {
      successors = λ apex limit name q.
          round_same (InZoneOf Full apex limit) (InZone apex limit) (full_zone apex limit) (successor_in Full apex limit)
          (successor_of apex limit) (full_successor apex limit) (successors_in Full apex limit name q);
      predecessors = λ apex limit name q.
          round_same (InZoneOf Full apex limit) (InZone apex limit) (full_zone apex limit) (predecessor_in Full apex limit)
          (predecessor_of apex limit) (full_predecessor apex limit) (predecessors_in Full apex limit name q);
      successors_in = successors_in;
      predecessors_in = predecessors_in;
      modified_successors = λ alphabet depth apex limit name q d. modified_successors alphabet apex limit name q depth d;
      modified_predecessors = λ alphabet depth apex limit name q d. modified_predecessors alphabet apex limit name q depth d;
    }
