-- What the code finds of a question: the places of its parts in the input.
use Rattle.std.specs.Prelude.{List, cond, ℕ, ◌+◌, ◌≤◌, length, take, drop, ltb, Result, Ok, Err}
use Rattle.question.specs.declared.Part.{Part}
use Rattle.question.specs.declared.Parts.{Parts}
use Rattle.question.specs.declared.NotAsked.{NotAsked}
use Rattle.question.specs.declared.NotAsked.TheVariants.{Wrong, Cut, End}
use Rattle.question.specs.Fields.{Read, found, wrong, cut, size_of, field_of}
use Rattle.question.specs.Question.{Question, asking, size, read_way, read_name, read_limit, read_of}

-- the size that was read
abbrev pub size_read : Read ℕ → Result ℕ NotAsked
size_read (found n rest) = Ok n
size_read wrong = Err Wrong
size_read cut = Err Cut

-- the size at the place `at`
unfoldable pub size_at : List ℕ → ℕ → ℕ → ℕ → Result ℕ NotAsked
size_at s at least most = size_read (size_of least most (drop at s))

-- the number of octets of a field's value
abbrev pub field_length : Read (List ℕ) → Result ℕ NotAsked
field_length (found value rest) = Ok (length value)
field_length wrong = Err Wrong
field_length cut = Err Cut

-- the field that begins at the place `at`
unfoldable pub field_at : List ℕ → ℕ → ℕ → ℕ → ℕ → Result ℕ NotAsked
field_at s at tag least most = field_length (field_of tag least most (drop at s))

-- the octets of a part
abbrev pub part_of : List ℕ → Part → List ℕ
part_of s p = take p.len (drop p.start s)

-- the parts of a question that begins at the place `at`: three octets stand before each value
abbrev pub parts_at : ℕ → Question → Parts
parts_at at q =
    record {
      apex = record { start = at + 3; len = length q.apex };
      limit = q.limit;
      name = record { start = at + length q.apex + 10; len = length q.name };
      way = q.way;
      next = at + size q;
    }

-- the parts lie in the input
pub record Within (s : List ℕ) (p : Parts) : Type 0 where
  pub apex : p.apex.start + p.apex.len ≤ length s
  pub name : p.name.start + p.name.len ≤ length s

-- the question that has these parts
abbrev pub question_in : List ℕ → Parts → Question
question_in s p = asking (part_of s p.apex) p.limit (part_of s p.name) p.way

abbrev pub placed : ℕ → Read Question → Result Parts NotAsked
placed at (found q rest) = Ok (parts_at at q)
placed at wrong = Err Wrong
placed at cut = Err Cut

-- what is left to read of a question that begins at the place `at`: behind an apex of a octets, a limit, and a name of n octets
abbrev pub after_apex : List ℕ → ℕ → ℕ → Result Parts NotAsked
after_apex s at a = placed at (read_limit (take a (drop (at + 3) s)) (drop (at + 3 + a) s))

abbrev pub after_limit : List ℕ → ℕ → ℕ → ℕ → Result Parts NotAsked
after_limit s at a limit = placed at (read_name (take a (drop (at + 3) s)) limit (drop (at + 7 + a) s))

abbrev pub after_name : List ℕ → ℕ → ℕ → ℕ → ℕ → Result Parts NotAsked
after_name s at a limit n =
    placed at (read_way (take a (drop (at + 3) s)) limit (take n (drop (at + 10 + a) s)) (drop (at + 10 + a + n) s))

-- the question that begins at the place `at`; past the last octet there is none
unfoldable pub asked_at : List ℕ → ℕ → Result Parts NotAsked
asked_at s at = cond (ltb at (length s)) (placed at (read_of (drop at s))) (Err End)
