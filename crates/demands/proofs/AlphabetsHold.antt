-- Demand 2 holds over the alphabet and the depth: the steps of RFC 4471 as document 01 corrects them give the nearest names of the zone,
-- and of the short set.
use mathlib.Core.Path.{◌≡◌, sym, ap, ◌∙◌}
use mathlib.Core.List.{List, [], ◌∷◌, ◌++◌}
use mathlib.Core.Bool.{false}
use Prim.Native.Nat.{ℕ, ◌+◌, ◌-◌, ◌≤◌}
use native.Mathlib.Nat.{sub-zero}
use native.Mathlib.Omega.{arith}
use borrow.Author.Tests.{le-leb, lt-ltb}
use lib.ListN.{length, replicate}
use Rattle.name.specs.Labels.{wire}
use Rattle.space.specs.Fold.{folded}
use Rattle.name.specs.Answer.{Result, answer, refuse_if}
use Rattle.name.proofs.Answers.{answer_injective}
use Rattle.name.proofs.Labels.{at_most_127_labels}
use Rattle.name.proofs.Folding.{folded_is_wire}
use Rattle.order.specs.Order.{folded_labels}
use Rattle.zone.specs.Zone.{Member}
use Rattle.zone.specs.Steps.{least, greatest, deeper, successor_steps, fill_labels, predecessor_steps}
use Rattle.zone.proofs.FullAlphabet.{least_full, greatest_full}
use Rattle.zone.proofs.StepsNearest.{steps_predecessor_successor, steps_successor_predecessor}
use Rattle.alphabet.specs.declared.Alphabet.{Alphabet}
use Rattle.alphabet.specs.Alphabets.{allowed}
use Rattle.alphabet.proofs.Folded.{allowed_hyphen}
use Rattle.alphabet.proofs.Ldh.{ldh_length, ldh_rising, ldh_octets, least_ldh, greatest_ldh}
use Rattle.checks.specs.Under.{more, above, under}
use Rattle.checks.specs.Checks.{checks}
use Rattle.plan.specs.Spelled.{spelled_check}
use Rattle.neighbour.specs.Neighbour.{successor_in, predecessor_in}
use Rattle.neighbour.specs.Modified.{no_depth, modified_successor_in, modified_predecessor_in}
use Rattle.name.specs.WellFormed.{WellFormed}
use Rattle.neighbour.specs.Nearest.{QuestionIn, InZoneOf, LeastAfter, GreatestBefore}
use Rattle.neighbour.proofs.FullAlphabet.{full_above, full_zone, full_successor, full_predecessor, full_modified_successor}
use Rattle.neighbour.proofs.FullAlphabet.{full_modified_predecessor}
use Rattle.neighbour.proofs.ZoneNames.{name_parts, name_member, member_above, member_zone}
use Rattle.neighbour.proofs.NearestNames.{Within, room_is_spare, apex_fits, successor_labels, successor_next, successor_least}
use Rattle.neighbour.proofs.NearestNames.{predecessor_labels, predecessor_previous, predecessor_greatest}
use Rattle.neighbour.proofs.ModifiedNames.{modified_passes, modified_answer, modified_successor_answered, modified_predecessor_answered}
use Rattle.neighbour.proofs.ModifiedNames.{modified_successor_least, modified_predecessor_greatest}
use Rattle.neighbour.proofs.Depths.{depth_passed, depth_passes}
use Rattle.neighbour.proofs.ApexNames.{apex_in_zone}
use Rattle.neighbour.proofs.Questions.{question_passes, member_question, least_same, greatest_same}
use Rattle.demands.proofs.Others.{zone_after_other, zone_before_other, short_after_other, short_before_other}
use Rattle.demands.specs.Alphabets.{Deep, NeighboursIn, Alphabets}

pub few_labels : (apex u : List ℕ) → WellFormed u → more apex u ≤ 127
few_labels apex u v = omega (arith, at_most_127_labels u v.whole)

-- ---- each undoes the other, at any depth

module _ (alphabet : Alphabet) (apex : List ℕ) (limit : ℕ) (name : List ℕ) (q : QuestionIn alphabet apex limit name) (depth : ℕ)
    (few : more apex name ≤ depth) where
  -- the name itself is a member
  query : Member (allowed alphabet) limit depth (folded_labels apex) (above apex name)
  query =
      let w = q.question in
      name_member apex w.apex_formed name w.name_formed w.under alphabet q.spelled limit depth w.name_fits few

  successor_labels_back : predecessor_steps (allowed alphabet) (limit - length apex) depth
      (successor_labels alphabet apex limit name q depth)
      ≡ above apex name
  unfolding successor_labels
  successor_labels_back =
      rw (room_is_spare apex limit name q.question)
      (steps_predecessor_successor (allowed alphabet) 45 (allowed_hyphen alphabet) limit depth (folded_labels apex)
      (apex_fits apex limit name q.question)
      (above apex name) query)

  predecessor_labels_back : successor_steps (allowed alphabet) (limit - length apex) depth
      (predecessor_labels alphabet apex limit name q depth)
      ≡ above apex name
  unfolding predecessor_labels
  predecessor_labels_back =
      rw (room_is_spare apex limit name q.question)
      (steps_successor_predecessor (allowed alphabet) 45 (allowed_hyphen alphabet) limit depth (folded_labels apex)
      (apex_fits apex limit name q.question)
      (above apex name) query)

  -- ---- where lines let a question pass

  module _ (lines : List ℕ → Result (List ℕ) → Result (List ℕ))
      (passes : (u : List ℕ) → QuestionIn alphabet apex limit u → (next : Result (List ℕ)) → lines u next ≡ next) where
    -- the name of a member's labels, asked for with steps that lead back from them
    member_back : (steps : List (List ℕ) → List (List ℕ)) (ms : List (List ℕ))
        → Member (allowed alphabet) limit depth (folded_labels apex) ms
        → steps ms ≡ above apex name
        → lines (under apex ms) (answer (under apex (steps (above apex (under apex ms))))) ≡ answer (folded name)
    member_back steps ms m back =
        let w = q.question in
        let z = member_zone apex w.apex_formed alphabet limit depth w.most ms m in
        passes (under apex ms) (record { question = member_question w (under apex ms) z.zone; spelled = z.spelled }) _
        ∙ ap (λ (x : List (List ℕ)). answer (under apex (steps x))) (member_above apex w.apex_formed alphabet limit depth w.most ms m)
        ∙ ap (λ (x : List (List ℕ)). answer (under apex x)) back
        ∙ ap (λ (x : List (List ℕ)). answer (wire x)) (sym (name_parts apex w.apex_formed name w.name_formed w.under))
        ∙ ap answer (sym (folded_is_wire name w.name_formed.whole))

    successor_answer_back : let a = under apex (successor_labels alphabet apex limit name q depth) in
        lines a (answer (under apex (predecessor_steps (allowed alphabet) (limit - length apex) depth (above apex a))))
        ≡ answer (folded name)
    successor_answer_back =
        member_back (predecessor_steps (allowed alphabet) (limit - length apex) depth) (successor_labels alphabet apex limit name q depth)
        (successor_next alphabet apex limit name q depth).member successor_labels_back

    predecessor_answer_back : let a = under apex (predecessor_labels alphabet apex limit name q depth) in
        lines a (answer (under apex (successor_steps (allowed alphabet) (limit - length apex) depth (above apex a))))
        ≡ answer (folded name)
    predecessor_answer_back =
        member_back (successor_steps (allowed alphabet) (limit - length apex) depth) (predecessor_labels alphabet apex limit name q depth)
        (predecessor_previous alphabet apex limit name q depth).member predecessor_labels_back

-- ---- the absolute neighbours

module _ (alphabet : Alphabet) (apex : List ℕ) (limit : ℕ) (name : List ℕ) (q : QuestionIn alphabet apex limit name) where
  successor_is : successor_in alphabet apex limit name ≡ answer (under apex (successor_labels alphabet apex limit name q 127))
  unfolding successor_labels
  successor_is = question_passes apex limit name _ q.question ∙ rw q.spelled

  predecessor_is : predecessor_in alphabet apex limit name ≡ answer (under apex (predecessor_labels alphabet apex limit name q 127))
  unfolding predecessor_labels
  predecessor_is = question_passes apex limit name _ q.question ∙ rw q.spelled

  abbrev lines : List ℕ → Result (List ℕ) → Result (List ℕ)
  lines u next = checks apex limit u (spelled_check alphabet apex u next)

  passes : (u : List ℕ) → QuestionIn alphabet apex limit u → (next : Result (List ℕ)) → lines u next ≡ next
  passes u v next = question_passes apex limit u (spelled_check alphabet apex u next) v.question ∙ rw v.spelled

  within_zone : (u : List ℕ) → Within alphabet apex limit 127 u → InZoneOf alphabet apex limit u
  within_zone u w = w.zone

  zone_within : (u : List ℕ) → InZoneOf alphabet apex limit u → Within alphabet apex limit 127 u
  zone_within u z = record { zone = z; few = few_labels apex u z.zone.formed }

  module _ (a : List ℕ) where
    successor_least_zone : successor_in alphabet apex limit name ≡ answer a → LeastAfter (InZoneOf alphabet apex limit) apex name a
    successor_least_zone e =
        rw (answer_injective (sym e ∙ successor_is))
        (least_same (Within alphabet apex limit 127) (InZoneOf alphabet apex limit) within_zone zone_within
        (successor_least alphabet apex limit name q 127))

    predecessor_greatest_zone : predecessor_in alphabet apex limit name ≡ answer a → GreatestBefore (InZoneOf alphabet apex limit) name a
    predecessor_greatest_zone e =
        rw (answer_injective (sym e ∙ predecessor_is))
        (greatest_same (Within alphabet apex limit 127) (InZoneOf alphabet apex limit) within_zone zone_within
        (predecessor_greatest alphabet apex limit name q 127))

    successor_back : successor_in alphabet apex limit name ≡ answer a → predecessor_in alphabet apex limit a ≡ answer (folded name)
    successor_back e =
        rw (answer_injective (sym e ∙ successor_is))
        (successor_answer_back alphabet apex limit name q 127 (few_labels apex name q.question.name_formed) lines passes)

    predecessor_back : predecessor_in alphabet apex limit name ≡ answer a → successor_in alphabet apex limit a ≡ answer (folded name)
    predecessor_back e =
        rw (answer_injective (sym e ∙ predecessor_is))
        (predecessor_answer_back alphabet apex limit name q 127 (few_labels apex name q.question.name_formed) lines passes)

-- ---- the modified neighbours, at any depth

module _ (alphabet : Alphabet) (depth : ℕ) (apex : List ℕ) (limit : ℕ) (name : List ℕ) (q : QuestionIn alphabet apex limit name) where
  abbrev modified : List ℕ → Result (List ℕ) → Result (List ℕ)
  modified u next = checks apex limit u (refuse_if (no_depth depth apex limit) 7 (spelled_check alphabet apex u next))

  module _ (few : more apex name ≤ depth) (a : List ℕ) where
    modified_successor_back : modified_successor_in alphabet depth apex limit name ≡ answer a
        → modified_predecessor_in alphabet depth apex limit a ≡ answer (folded name)
    unfolding successor_labels
    modified_successor_back e =
        let r = modified_answer alphabet depth apex limit name q (under apex (successor_labels alphabet apex limit name q depth)) a e in
        rw (← r.1)
        (successor_answer_back alphabet apex limit name q depth few modified
        (λ u v next. modified_passes alphabet depth apex limit u v r.0 next))

    modified_predecessor_back : modified_predecessor_in alphabet depth apex limit name ≡ answer a
        → modified_successor_in alphabet depth apex limit a ≡ answer (folded name)
    unfolding predecessor_labels
    modified_predecessor_back e =
        let r = modified_answer alphabet depth apex limit name q (under apex (predecessor_labels alphabet apex limit name q depth)) a e in
        rw (← r.1)
        (predecessor_answer_back alphabet apex limit name q depth few modified
        (λ u v next. modified_passes alphabet depth apex limit u v r.0 next))

  -- a depth at which there is an answer is 1 at least
  module _ (a : List ℕ) where
    successor_some : modified_successor_in alphabet depth apex limit name ≡ answer a → 1 ≤ depth
    unfolding successor_labels
    successor_some e =
        (depth_passed depth apex limit
        (modified_answer alphabet depth apex limit name q (under apex (successor_labels alphabet apex limit name q depth)) a e).0).0

    predecessor_some : modified_predecessor_in alphabet depth apex limit name ≡ answer a → 1 ≤ depth
    unfolding predecessor_labels
    predecessor_some e =
        (depth_passed depth apex limit
        (modified_answer alphabet depth apex limit name q (under apex (predecessor_labels alphabet apex limit name q depth)) a e).0).0

  none_above : more apex name ≡ 0 → above apex name ≡ []
  none_above z = rw z

  deep_passes : Deep depth apex limit → no_depth depth apex limit ≡ false
  deep_passes d = depth_passes depth apex limit d.some d.most d.fits

  modified_apex_successor : Deep depth apex limit → more apex name ≡ 0
      → modified_successor_in alphabet depth apex limit name ≡ answer (1 ∷ least (allowed alphabet) ∷ folded apex)
  unfolding successor_labels successor_steps deeper
  modified_apex_successor d z =
      let none : 0 - depth ≡ 0 = omega arith in
      modified_successor_answered alphabet depth apex limit name q (deep_passes d)
      ∙ rw (
        none_above z,
        none,
        lt-ltb 0 depth (omega (arith, d.some)),
        le-leb 2 (limit - length apex) (omega (arith, d.some, d.fits)),
        folded_is_wire apex q.question.apex_formed.whole,
      )

module _ (alphabet : Alphabet) (apex : List ℕ) (limit : ℕ) (name : List ℕ) (q : QuestionIn alphabet apex limit name) where
  modified_apex_predecessor : length apex + 64 ≤ limit → more apex name ≡ 0
      → modified_predecessor_in alphabet 1 apex limit name ≡ answer (63 ∷ replicate 63 (greatest (allowed alphabet)) ++ folded apex)
  unfolding predecessor_labels predecessor_steps fill_labels
  modified_apex_predecessor full_label z =
      modified_predecessor_answered alphabet 1 apex limit name q (depth_passes 1 apex limit (omega arith) (omega arith) full_label)
      ∙ rw (
        none_above alphabet 1 apex limit name q z,
        sub-zero (limit - length apex),
        le-leb 64 (limit - length apex) (omega arith),
        folded_is_wire apex q.question.apex_formed.whole,
      )

pub neighbours_in : (alphabet : Alphabet) → NeighboursIn alphabet
neighbours_in alphabet =
    record {
      successor_answered = λ apex limit name q.
          (under apex (successor_labels alphabet apex limit name q 127), successor_is alphabet apex limit name q);
      predecessor_answered = λ apex limit name q.
          (under apex (predecessor_labels alphabet apex limit name q 127), predecessor_is alphabet apex limit name q);
      successor = λ apex limit name a q e. successor_least_zone alphabet apex limit name q a e;
      predecessor = λ apex limit name a q e. predecessor_greatest_zone alphabet apex limit name q a e;
      successor_back = λ apex limit name a q e. successor_back alphabet apex limit name q a e;
      predecessor_back = λ apex limit name a q e. predecessor_back alphabet apex limit name q a e;
      successor_other = λ apex limit name a q e same.
          zone_after_other alphabet apex limit name q.question a same (successor_least_zone alphabet apex limit name q a e);
      predecessor_other = λ apex limit name a q e same.
          zone_before_other alphabet apex limit name q.question a same (predecessor_greatest_zone alphabet apex limit name q a e);
      modified_answered = λ depth apex limit name q d. let deep = deep_passes alphabet depth apex limit name q d in (
        (
          under apex (successor_labels alphabet apex limit name q depth),
          modified_successor_answered alphabet depth apex limit name q deep,
        ),
        (
          under apex (predecessor_labels alphabet apex limit name q depth),
          modified_predecessor_answered alphabet depth apex limit name q deep,
        ),
      );
      modified_successor = λ depth apex limit name a q e. modified_successor_least alphabet depth apex limit name q a e;
      modified_predecessor = λ depth apex limit name a q e. modified_predecessor_greatest alphabet depth apex limit name q a e;
      modified_successor_back = λ depth apex limit name a q few e. modified_successor_back alphabet depth apex limit name q few a e;
      modified_predecessor_back = λ depth apex limit name a q few e. modified_predecessor_back alphabet depth apex limit name q few a e;
      modified_successor_other = λ depth apex limit name a q e same.
          short_after_other alphabet apex limit name q.question a same depth (successor_some alphabet depth apex limit name q a e)
          (modified_successor_least alphabet depth apex limit name q a e);
      modified_predecessor_other = λ depth apex limit name a q e same.
          short_before_other alphabet apex limit name q.question a same depth (predecessor_some alphabet depth apex limit name q a e)
          (modified_predecessor_greatest alphabet depth apex limit name q a e);
      modified_apex_successor = modified_apex_successor alphabet;
      modified_apex_predecessor = modified_apex_predecessor alphabet;
      apex_member = λ apex limit name q. apex_in_zone apex limit name q.question alphabet;
    }

pub alphabets : Alphabets
alphabets =
    record {
      neighbours = neighbours_in;
      full_successor = full_successor;
      full_predecessor = full_predecessor;
      full_modified_successor = full_modified_successor;
      full_modified_predecessor = full_modified_predecessor;
      full_zone = λ apex limit u. (λ z. z.zone, full_zone apex limit u);
      short_set = λ apex limit u. (
        λ s. record { zone = s.zone.zone; few = s.few },
        λ s. record { zone = full_zone apex limit u s.zone; few = s.few },
      );
      full_spelled = full_above;
      thirty_seven = ldh_length;
      rising = ldh_rising;
      small = ldh_octets;
      least_is = (least_full, least_ldh);
      greatest_is = (greatest_full, greatest_ldh);
    }
