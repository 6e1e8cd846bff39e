-- One step of a call, by what stands at its place and what was written.
use mathlib.Core.Path.{◌≡◌, refl, ap, ◌∙◌}
use mathlib.Core.List.{List}
use mathlib.Core.Bool.{Bool, true, false}
use Prim.Native.Nat.{ℕ, ◌≤◌, ◌<◌}
use native.Mathlib.Omega.{arith}
use borrow.Author.Tests.{le-leb, lt-leb}
use lib.ListN.{length, drop, length-drop, drop_of_length-le}
use Rattle.question.specs.declared.Parts.{Parts}
use Rattle.answering.specs.declared.batch.Step.{Step}
use Rattle.answering.specs.declared.batch.Step.TheVariants.{Answered, Ended, Stopped}
use Rattle.question.specs.Fields.{wrong, cut}
use Rattle.question.specs.Question.{Question, read_of}
use Rattle.answering.specs.Answering.{answered, thirteen}
use Rattle.name.specs.Answer.{answer, refusal, Fills}
use Rattle.question.specs.Private.Asked.{question_in}
use Rattle.answering.specs.Progress.{Run, stops, quiet, refuses, run_of}
use Rattle.answering.specs.Private.Steps.{Replies, Ends, Stops, Steps}
use Rattle.answering.proofs.Outcomes.{answer_put, answer_not_put}
use Rattle.question.proofs.AskedCases.{IsWhole, parts_question}
use Rattle.answering.proofs.Runs.{run_end, run_found, run_wrong, run_cut}

-- ---- 13

module _ (before after : List ℕ) where
  pub refuse_ends : (n : ℕ) → Fills (answer thirteen) before (answer n) after → Ends (refuses (length before)) before n after
  refuse_ends n f =
      let t = answer_put f in
      rw (le-leb (length thirteen) (length before) t.1)
      (record { read = refl; count = t.0; fits = omega (arith, t.0, t.1); ended = refl; space = t.2 })

  pub refuse_stops : (m : ℕ) (vs : List ℕ) → Fills (answer thirteen) before (refusal m vs) after
      → (refuses (length before) ≡ stops) × (after ≡ before)
  refuse_stops m vs f =
      let t = answer_not_put f in
      (rw (lt-leb (length thirteen) (length before) t.0), t.1)

module _ (s : List ℕ) (at : ℕ) (last : Bool) (before : List ℕ) where
  -- a step that answers no question
  stopping : (run : Run) (step : Step) (after : List ℕ) → run_of last (length before) (drop at s) ≡ run → Stops run before step after
      → Steps s at last before step after
  stopping run (Answered next n) after e h = absurd h
  stopping run (Ended n) after e h = rw e h
  stopping run Stopped after e h = rw e h

  some_octet : at < length s → 1 ≤ length (drop at s)
  some_octet h = rw length-drop (omega arith)

  pub at_wrong : (step : Step) (after : List ℕ) → (at < length s) × (read_of (drop at s) ≡ wrong)
      → Stops (refuses (length before)) before step after
      → Steps s at last before step after
  at_wrong step after h = stopping _ step after (run_wrong last (length before) (drop at s) (some_octet h.0) h.1)

  pub at_last_cut : (step : Step) (after : List ℕ) → (at < length s) × (read_of (drop at s) ≡ cut) → last ≡ true
      → Stops (refuses (length before)) before step after → Steps s at last before step after
  at_last_cut step after h l = stopping _ step after (run_cut last (length before) (drop at s) (some_octet h.0) h.1 ∙ rw l)

  pub at_cut : (at < length s) × (read_of (drop at s) ≡ cut) → last ≡ false → Steps s at last before Stopped before
  at_cut h l = stopping stops Stopped before (run_cut last (length before) (drop at s) (some_octet h.0) h.1 ∙ rw l) (refl, refl)

  ended_run : length s ≤ at → run_of last (length before) (drop at s) ≡ quiet last
  ended_run h = rw (drop_of_length-le s h) (run_end last (length before))

  pub at_last_end : length s ≤ at → last ≡ true → Steps s at last before (Ended 0) before
  at_last_end h l =
      stopping (quiet true) (Ended 0) before (ended_run h ∙ rw l)
      (record { read = refl; count = refl; fits = omega arith; ended = refl; space = refl })

  pub at_end_lem : length s ≤ at → last ≡ false → Steps s at last before Stopped before
  at_end_lem h l = stopping stops Stopped before (ended_run h ∙ rw l) (refl, refl)

  -- ---- a question

  module _ (p : Parts) (h : IsWhole s at p) where
    same : answered (question_in s p) ≡ answered h.question
    same = rw h.parts (ap (λ (q : Question). answered q) (parts_question s at h.question h.rest h.is))

    pub at_question : (step : Step) (after : List ℕ) → Replies s p before step after → Steps s at last before step after
    at_question (Answered next n) after r =
        let t = answer_put (rw same at r.1) in
        record {
          question = h.question;
          rest = h.rest;
          is = h.is;
          place = r.0 ∙ rw h.parts;
          count = t.0;
          fits = omega (arith, t.0, t.1);
          space = t.2;
        }
    at_question (Ended n) after r = absurd r
    at_question Stopped after r =
        let t = rw same at r in
        stopping stops Stopped after
        (run_found last (length before) (drop at s) h.question h.rest h.is
        ∙ rw (lt-leb (length (answered h.question)) (length before) t.0))
        (refl, t.1)
