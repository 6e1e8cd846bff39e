-- At or under the apex example.com. by labels: x\007example.com. is not, though its last octets are the apex's, and FOO.example.com. is
-- under EXAMPLE.com., whatever the letter case of either. A limit of 15 leaves room for a name under that apex, and one of 14 does not.
use mathlib.Core.Path.{◌≡◌, refl}
use mathlib.Core.List.{List, [], ◌∷◌}
use mathlib.Core.Bool.{true, false}
use Prim.Native.Nat.{ℕ, ◌-◌}
use lib.ListN.{length, drop}
use Rattle.std.specs.Prelude.{Ok}
use Rattle.name.specs.Wire.{read_from, reading_of}
use Rattle.name.specs.Labels.{split}
use Rattle.name.specs.Answer.{answer, refusal}
use Rattle.checks.specs.Under.{is_under}
use Rattle.checks.specs.Checks.{checks}

-- com.
abbrev parent : List ℕ
parent = 3 ∷ 99 ∷ 111 ∷ 109 ∷ 0 ∷ []

-- example.com.
abbrev apex : List ℕ
apex = 7 ∷ 101 ∷ 120 ∷ 97 ∷ 109 ∷ 112 ∷ 108 ∷ 101 ∷ parent

-- x\007example.com.
abbrev name : List ℕ
name = 9 ∷ 120 ∷ apex

pub outside_by_labels : (reading_of name ≡ Ok tt) × (drop (length name - length apex) name ≡ apex) × (is_under apex name ≡ false)
unfolding read_from split
outside_by_labels = (refl, refl, refl)

-- EXAMPLE.com., and FOO.example.com.
pub inside_any_case : is_under (7 ∷ 69 ∷ 88 ∷ 65 ∷ 77 ∷ 80 ∷ 76 ∷ 69 ∷ parent) (3 ∷ 70 ∷ 79 ∷ 79 ∷ apex) ≡ true
unfolding split
inside_any_case = refl

pub room_for_one : (checks {A = ℕ} apex 14 apex (answer 0) ≡ refusal 3 []) × (checks {A = ℕ} apex 15 apex (answer 0) ≡ answer 0)
unfolding read_from split
room_for_one = (refl, refl)
