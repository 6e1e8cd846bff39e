-- Writing a question: 13 for what no question can hold, then 9, or its octets (document 02, request Three).
use Rattle.std.specs.Prelude.{List, [], ℕ, length, ltb, Option, Some, None, Ok, Err, Result as Outcome}
use Rattle.name.specs.Answer.{Result, answer, refusal, refuse_if}
use Rattle.question.specs.declared.Way.{Way}
use Rattle.question.specs.declared.QuestionRefusal.TheVariants.{NoQuestion, NoRoom}
use Rattle.question.specs.declared.QuestionRefusal.{QuestionRefusal}
use Rattle.question.specs.Way.{way_of}
use Rattle.question.specs.Question.{asking, question_octets, most_value}

-- the number of each case
abbrev pub said : Outcome ℕ QuestionRefusal → Result ℕ
said (Ok n) = answer n
said (Err NoQuestion) = refusal 13 []
said (Err NoRoom) = refusal 9 []

-- the octets of the question with this way, if it is one
abbrev pub write_way : List ℕ → ℕ → List ℕ → Option Way → Result (List ℕ)
write_way apex limit name (Some way) = answer (question_octets (asking apex limit name way))
write_way apex limit name None = refusal 13 []

-- each line what no question can hold; the way is a number, as it stands in the question
unfoldable pub write_of : List ℕ → ℕ → List ℕ → ℕ → Result (List ℕ)
write_of apex limit name way =
    refuse_if (ltb most_value (length apex)) 13
    (refuse_if (ltb 255 limit) 13
    (refuse_if (ltb most_value (length name)) 13 (write_way apex limit name (way_of way))))
