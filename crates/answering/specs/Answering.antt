-- The answer to a question, and its octets (document 02, request Three): field 10 with the number, and after number 0 field 11 with the
-- name.
use Rattle.std.specs.Prelude.{List, [], ◌∷◌, ◌++◌, ℕ}
use Rattle.name.specs.Answer.{Result, answer, refusal}
use Rattle.neighbour.specs.Neighbour.{predecessor_of, successor_of}
use Rattle.neighbour.specs.Modified.{modified_predecessor_of, modified_successor_of}
use Rattle.question.specs.declared.Way.{Way}
use Rattle.question.specs.declared.Way.TheVariants.{AbsolutePredecessor, AbsoluteSuccessor, ModifiedPredecessor, ModifiedSuccessor}
use Rattle.question.specs.Fields.{field}
use Rattle.question.specs.Question.{Question}

-- the operation of a way
abbrev pub operation : Way → List ℕ → ℕ → List ℕ → Result (List ℕ)
operation AbsolutePredecessor = predecessor_of
operation AbsoluteSuccessor = successor_of
operation ModifiedPredecessor = modified_predecessor_of
operation ModifiedSuccessor = modified_successor_of

-- the result of the operation that is asked for
unfoldable pub result_of : Question → Result (List ℕ)
result_of q = operation q.way q.apex q.limit q.name

abbrev pub answer_octets : Result (List ℕ) → List ℕ
answer_octets (answer name) = field 0x10 (0 ∷ []) ++ field 0x11 name
answer_octets (refusal n vs) = field 0x10 (n ∷ [])

-- the octets of the answer to a question
unfoldable pub answered : Question → List ℕ
answered q = answer_octets (result_of q)

-- the answer to what is no question
abbrev pub thirteen : List ℕ
thirteen = answer_octets (refusal 13 [])
