-- Checking a name, and the checked name (document 01, "What a name is").
use Rattle.std.specs.Prelude.{◌≡◌, ℕ, ◌-◌, List, [], ◌++◌, length, replicate}
use Rattle.name.specs.declared.Name.{Name}
use Rattle.name.specs.declared.Checked.{Checked}
use Rattle.name.specs.Wire.{reading_of}
use Rattle.name.specs.Starts.{starts_of}
use Rattle.name.specs.Answer.{Result, answer, refusal, refuse_broken, said, sized}

-- checking: 4, or the octets unchanged
abbrev pub check_of : List ℕ → Result (List ℕ)
check_of octets = refuse_broken (reading_of octets) 4 (answer octets)

-- an array of n octets that begins with these, and has 0 in its rest
abbrev pub in_array : ℕ → List ℕ → List ℕ
in_array n s = s ++ replicate (n - length s) 0

-- the checked name of wire octets: these, the number of its labels, and their places (document 02, request Eleven)
abbrev pub name_of : List ℕ → Name
name_of s =
    record { octets = in_array 255 s; len = length s; labels = length (starts_of s); places = in_array 127 (starts_of s) }

-- the checked name beside an answer, and beside a refusal the one with no octet, which is no name and has no label
abbrev pub name_beside : Result (List ℕ) → Name
name_beside (answer a) = name_of a
name_beside (refusal n vs) = name_of []

-- the promise of a check: what it says, and the checked name beside that
pub record Checks (octets : List ℕ) (checked : Checked) : Type 0 where
  pub says : said checked.outcome ≡ sized (check_of octets)
  pub name : checked.name ≡ name_beside (check_of octets)
