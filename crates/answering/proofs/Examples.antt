-- The whole case of document 02's request Three, and cases of how a batch ends, by computation.
use mathlib.Core.Path.{◌≡◌, refl}
use mathlib.Core.List.{List, [], ◌∷◌, ◌++◌, map}
use Prim.Native.Nat.{ℕ}
use lib.ListN.{take, drop}
use Rattle.name.specs.Wire.{read_from}
use Rattle.name.specs.Labels.{split}
use Rattle.zone.specs.Steps.{successor_steps, deeper, least}
use Rattle.zone.specs.Alphabet.{from, scan}
use Rattle.question.specs.Fields.{field_of}
use Rattle.question.specs.Question.{read_of}
use Rattle.answering.specs.Answering.{answered, result_of}
use Rattle.answering.specs.Batch.{batch_from, batch_of}

-- document 02's question and its answer
question : List ℕ
question = 0x01 ∷ 0x00 ∷ 0x01 ∷ 0x00 ∷ 0x02 ∷ 0x00 ∷ 0x01 ∷ 0xff ∷ 0x03 ∷ 0x00 ∷ 0x03 ∷ 0x01 ∷ 0x61 ∷ 0x00 ∷ 0x04 ∷ 0x00 ∷ 0x01 ∷ 0x01 ∷ []

answer : List ℕ
answer = 0x10 ∷ 0x00 ∷ 0x01 ∷ 0x00 ∷ 0x11 ∷ 0x00 ∷ 0x05 ∷ 0x01 ∷ 0x00 ∷ 0x01 ∷ 0x61 ∷ 0x00 ∷ []

refused : ℕ → List ℕ
refused number = 0x10 ∷ 0x00 ∷ 0x01 ∷ number ∷ []

-- limit 0 and a broken name, in a question that is whole, and the same with the way 4
broken : ℕ → List ℕ
broken way = 0x01 ∷ 0x00 ∷ 0x00 ∷ 0x02 ∷ 0x00 ∷ 0x01 ∷ 0x00 ∷ 0x03 ∷ 0x00 ∷ 0x01 ∷ 0x40 ∷ 0x04 ∷ 0x00 ∷ 0x01 ∷ way ∷ []

pub inputs : List (List ℕ)
inputs =
    question
    -- the end between questions is quiet
    ∷ [] ∷ (question ++ question)
    -- cut off, in the way and in the size of the apex
    ∷ (question ++ take 17 question) ∷ (question ++ take 2 question)
    -- a field left out, which ends the batch
    ∷ (drop 4 question ++ question)
    -- 13 before 1
    ∷ broken 0 ∷ broken 4
    -- 601 octets, of which none has come
    ∷ (0x01 ∷ 0x02 ∷ 0x59 ∷ [])
    ∷ []

pub outputs : List (List ℕ)
outputs =
    answer
    ∷ [] ∷ (answer ++ answer)
    ∷ (answer ++ refused 13) ∷ (answer ++ refused 13)
    ∷ refused 13
    ∷ refused 1 ∷ refused 13
    ∷ refused 13
    ∷ []

pub examples : map batch_of inputs ≡ outputs
unfolding inputs outputs question answer refused broken batch_from read_of field_of answered result_of read_from split successor_steps
    deeper
    least from scan
examples = refl
