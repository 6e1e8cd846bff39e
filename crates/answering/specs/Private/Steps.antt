-- One step of a call, as the private parts of the code promise it.
use Rattle.std.specs.Prelude.{◌≡◌, List, Bool, true, ℕ, ◌+◌, ◌≤◌, ◌<◌, length, drop}
use Rattle.space.specs.Octets.{overlay}
use Rattle.name.specs.Answer.{answer, Fills}
use Rattle.answering.specs.declared.batch.Step.{Step}
use Rattle.answering.specs.declared.batch.Step.TheVariants.{Answered, Ended, Stopped}
use Rattle.question.specs.declared.Parts.{Parts}
use Rattle.question.specs.Fields.{found}
use Rattle.question.specs.Question.{Question, size, read_of}
use Rattle.question.specs.Private.Asked.{question_in}
use Rattle.answering.specs.Answering.{answered}
use Rattle.answering.specs.Progress.{Run, stops, run_of}

-- the question at the place `at` was answered
pub record Answers (input : List ℕ) (at : ℕ) (before : List ℕ) (next n : ℕ) (after : List ℕ) : Type 0 where
  pub question : Question
  pub rest : List ℕ
  pub is : read_of (drop at input) ≡ found question rest
  pub place : next ≡ at + size question
  pub count : n ≡ length (answered question)
  pub fits : n ≤ length before
  pub space : after ≡ overlay (answered question) before

-- the question with these parts was answered, or there was no room for its answer
abbrev pub Replies : List ℕ → Parts → List ℕ → Step → List ℕ → Type 0
Replies input p before (Answered next n) after = (next ≡ p.next) × Fills (answer (answered (question_in input p))) before (answer n) after
Replies input p before (Ended n) after = ⊥
Replies input p before Stopped after = (length before < length (answered (question_in input p))) × (after ≡ before)

-- the batch ended with n octets
pub record Ends (run : Run) (before : List ℕ) (n : ℕ) (after : List ℕ) : Type 0 where
  pub read : run.read ≡ 0
  pub count : n ≡ length run.octets
  pub fits : n ≤ length before
  pub ended : run.ended ≡ true
  pub space : after ≡ overlay run.octets before

-- a step that answers no question
abbrev pub Stops : Run → List ℕ → Step → List ℕ → Type 0
Stops run before (Answered next n) after = ⊥
Stops run before (Ended n) after = Ends run before n after
Stops run before Stopped after = (run ≡ stops) × (after ≡ before)

-- a step from the place `at` of the input
abbrev pub Steps : List ℕ → ℕ → Bool → List ℕ → Step → List ℕ → Type 0
Steps input at last before (Answered next n) after = Answers input at before next n after
Steps input at last before (Ended n) after = Stops (run_of last (length before) (drop at input)) before (Ended n) after
Steps input at last before Stopped after = Stops (run_of last (length before) (drop at input)) before Stopped after
