-- What one call on a part of a batch's input does: how much of it is read, what is written, and whether the batch has ended. Only whole
-- questions are read and only whole answers are written, so that the next call goes on from there.
use Rattle.std.specs.Prelude.{◌≡◌, List, [], ◌∷◌, ◌++◌, Bool, true, false, cond, ℕ, zero, suc, ◌+◌, ◌-◌, length, leb}
use Rattle.space.specs.Octets.{overlay}
use Rattle.answering.specs.declared.Progress.{Progress}
use Rattle.question.specs.Fields.{Read, found, wrong, cut}
use Rattle.question.specs.Question.{Question, size, read_of}
use Rattle.answering.specs.Answering.{answered, thirteen}

-- the number of octets of the questions that were answered, the octets of the answers, and whether the batch has ended
pub record Run : Type 0 where
  pub read : ℕ
  pub octets : List ℕ
  pub ended : Bool

-- nothing more is done now
abbrev pub stops : Run
stops = record { read = 0; octets = []; ended = false }

-- the input has come to its end between questions, if this is its last part
abbrev pub quiet : Bool → Run
quiet last = record { read = 0; octets = []; ended = last }

-- 13 ends the batch, where there is room for it
abbrev pub refuses : ℕ → Run
refuses room = cond (leb (length thirteen) room) (record { read = 0; octets = thirteen; ended = true }) stops

-- a question is answered, where there is room for its answer, and `next` is done after it
abbrev pub replies : ℕ → Question → Run → Run
replies room q next =
    cond (leb (length (answered q)) room)
    (record { read = size q + next.read; octets = answered q ++ next.octets; ended = next.ended })
    stops

-- what is done about what was read, where `next` is done about the octets after a question with the room that is left. A question that is
-- cut off is left unread where more octets are to come
abbrev pub turn : Bool → ℕ → Read Question → (ℕ → List ℕ → Run) → Run
turn last room (found q rest) next = replies room q (next (room - length (answered q)) rest)
turn last room wrong next = refuses room
turn last room cut next = cond last (refuses room) stops

-- with at most so many questions
unfoldable pub run_from : ℕ → Bool → ℕ → List ℕ → Run
run_from zero last room s = quiet last
run_from (suc k) last room [] = quiet last
run_from (suc k) last room (o ∷ s) = turn last room (read_of (o ∷ s)) (λ left rest. run_from k last left rest)

-- a call with these octets of the input, with which it may end, and so much room
abbrev pub run_of : Bool → ℕ → List ℕ → Run
run_of last room s = run_from (length s) last room s

-- the promise of a call: what it hands back, and every octet of the space
pub record Runs (run : Run) (before : List ℕ) (progress : Progress) (after : List ℕ) : Type 0 where
  pub read : progress.read ≡ run.read
  pub written : progress.written ≡ length run.octets
  pub ended : progress.ended ≡ run.ended
  pub space : after ≡ overlay run.octets before
