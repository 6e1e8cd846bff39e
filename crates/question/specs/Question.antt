-- A question (document 02, request Three): apex, limit, name and way, each in its field, and its reading from the front of octets.
use Rattle.std.specs.Prelude.{◌≡◌, List, [], ◌∷◌, ◌++◌, ℕ, ◌+◌, ◌≤◌, length, get_or, Option, Some, None}
use Rattle.question.specs.declared.Way.{Way}
use Rattle.question.specs.Fields.{field, Read, found, wrong, and_then, field_of}
use Rattle.question.specs.Way.{octet_of, way_of}

pub record Question : Type 0 where
  pub apex : List ℕ
  pub limit : ℕ
  pub name : List ℕ
  pub way : Way

abbrev pub asking : List ℕ → ℕ → List ℕ → Way → Question
asking apex limit name way = record { apex = apex; limit = limit; name = name; way = way }

-- the four fields, with any octet as the way
abbrev pub four_fields : List ℕ → ℕ → List ℕ → ℕ → List ℕ
four_fields apex limit name octet = field 1 apex ++ (field 2 (limit ∷ []) ++ (field 3 name ++ field 4 (octet ∷ [])))

-- the octets of a question
abbrev pub question_octets : Question → List ℕ
question_octets q = four_fields q.apex q.limit q.name (octet_of q.way)

-- how many they are: three before each value
abbrev pub size : Question → ℕ
size q = length q.apex + length q.name + 14

-- the most octets of a value
abbrev pub most_value : ℕ
most_value = 600

-- what a question can hold
pub record Askable (q : Question) : Type 0 where
  pub apex_fits : length q.apex ≤ most_value
  pub limit_fits : q.limit ≤ 255
  pub name_fits : length q.name ≤ most_value

-- what a question can hold, part by part, with the octet of the way
pub record Held (apex : List ℕ) (limit : ℕ) (name : List ℕ) (octet : ℕ) : Type 0 where
  pub way : Way
  pub octet_is : octet_of way ≡ octet
  pub fits : Askable (asking apex limit name way)

-- with the way that was read, if it is one
abbrev pub with_way : List ℕ → ℕ → List ℕ → Option Way → List ℕ → Read Question
with_way apex limit name (Some way) rest = found (asking apex limit name way) rest
with_way apex limit name None rest = wrong

-- the way, after the other three
abbrev pub read_way : List ℕ → ℕ → List ℕ → List ℕ → Read Question
read_way apex limit name s = and_then (field_of 4 1 1 s) (λ value rest. with_way apex limit name (way_of (get_or value 0 0)) rest)

abbrev pub read_name : List ℕ → ℕ → List ℕ → Read Question
read_name apex limit s = and_then (field_of 3 0 most_value s) (λ name rest. read_way apex limit name rest)

abbrev pub read_limit : List ℕ → List ℕ → Read Question
read_limit apex s = and_then (field_of 2 1 1 s) (λ value rest. read_name apex (get_or value 0 0) rest)

-- the question at the front of octets
unfoldable pub read_of : List ℕ → Read Question
read_of s = and_then (field_of 1 0 most_value s) (λ apex rest. read_limit apex rest)
