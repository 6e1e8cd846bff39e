-- Batches may be split between questions: whole questions get the answers that they would get in front of any others, so that the answers
-- of the parts, one behind the other, are those of the whole.
use Rattle.std.specs.Prelude.{◌≡◌, List, [], ◌∷◌, ◌++◌, map, ℕ}
use Rattle.question.specs.Question.{Question}
use Rattle.answering.specs.Batch.{batch_of, all_octets, AllAskable}
use Rattle.answering.specs.Pieces.{joined}

-- a batch that ends quietly: whole questions, and nothing behind them
pub record EndsQuietly (batch : List ℕ) : Type 0 where
  pub questions : List Question
  pub askable : AllAskable questions
  pub is : batch ≡ all_octets questions

abbrev pub AllEndQuietly : List (List ℕ) → Type 0
AllEndQuietly [] = Unit {0}
AllEndQuietly (batch ∷ batches) = EndsQuietly batch × AllEndQuietly batches

pub record Split : Type 0 where
  pub two : (first second : List ℕ) → EndsQuietly first → batch_of (first ++ second) ≡ batch_of first ++ batch_of second
  pub many : (batches : List (List ℕ)) → AllEndQuietly batches → batch_of (joined batches) ≡ joined (map batch_of batches)
