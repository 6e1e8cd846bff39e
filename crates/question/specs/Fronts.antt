-- What stands before each field of a question, with that field's tag and the least and the most octets of its value (document 02, request
-- Three).
use Rattle.std.specs.Prelude.{List, [], ◌∷◌, ◌++◌, ℕ, ◌≤◌, length}
use Rattle.question.specs.Fields.{field}
use Rattle.question.specs.Question.{most_value}

pub data Front : List ℕ → ℕ → ℕ → ℕ → Type 0 where
  before_apex : Front [] 1 0 most_value
  before_limit : (apex : List ℕ) → length apex ≤ most_value → Front (field 1 apex) 2 1 1
  before_name : (apex : List ℕ) (limit : ℕ) → length apex ≤ most_value → Front (field 1 apex ++ field 2 (limit ∷ [])) 3 0 most_value
  before_way : (apex : List ℕ) (limit : ℕ) (name : List ℕ) → length apex ≤ most_value → length name ≤ most_value
      → Front (field 1 apex ++ (field 2 (limit ∷ []) ++ field 3 name)) 4 1 1
