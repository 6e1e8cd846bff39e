-- What a batch of questions is answered (document 02, request Three): the answers one after the other. What is no question, or is cut off,
-- is answered with 13 and ends it; the end of the input between questions ends it quietly.
use Rattle.std.specs.Prelude.{◌≡◌, List, [], ◌∷◌, ◌++◌, ◌⊎◌, ℕ, zero, suc, ◌≤◌, length}
use Rattle.question.specs.Fields.{Read, found, wrong, cut}
use Rattle.question.specs.Question.{Question, Askable, question_octets, read_of}
use Rattle.answering.specs.Answering.{answered, thirteen}

-- what is answered to what was read, where `next` is what is answered to the octets after a question
abbrev pub answers : Read Question → (List ℕ → List ℕ) → List ℕ
answers (found q rest) next = answered q ++ next rest
answers wrong next = thirteen
answers cut next = thirteen

-- of at most so many questions
unfoldable pub batch_from : ℕ → List ℕ → List ℕ
batch_from zero s = []
batch_from (suc k) [] = []
batch_from (suc k) (o ∷ s) = answers (read_of (o ∷ s)) (λ rest. batch_from k rest)

-- a question has at least one octet, so that there are no more questions than octets
abbrev pub batch_of : List ℕ → List ℕ
batch_of s = batch_from (length s) s

-- ---- what an input is made of

-- questions, one after the other, and their answers
abbrev pub all_octets : List Question → List ℕ
all_octets [] = []
all_octets (q ∷ qs) = question_octets q ++ all_octets qs

abbrev pub all_answers : List Question → List ℕ
all_answers [] = []
all_answers (q ∷ qs) = answered q ++ all_answers qs

abbrev pub AllAskable : List Question → Type 0
AllAskable [] = Unit {0}
AllAskable (q ∷ qs) = Askable q × AllAskable qs

-- octets at whose front no question stands
pub record NoQuestion (s : List ℕ) : Type 0 where
  pub some : 1 ≤ length s
  pub none : (q : Question) (rest : List ℕ) → Askable q → s ≡ question_octets q ++ rest → ⊥

-- questions, and after them the end or what is no question
pub record Parted (s : List ℕ) : Type 0 where
  pub questions : List Question
  pub askable : AllAskable questions
  pub rest : List ℕ
  pub is : s ≡ all_octets questions ++ rest
  pub ends : (rest ≡ []) ⊎ NoQuestion rest
