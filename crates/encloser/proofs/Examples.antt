-- Closest enclosers and wildcards that a wrong definition gets wrong, by computation (document 02, request Seven).
use mathlib.Core.Path.{◌≡◌, refl}
use mathlib.Core.List.{List, [], ◌∷◌}
use Prim.Native.Nat.{ℕ}
use lib.ListN.{replicate}
use Rattle.name.specs.Wire.{read_from}
use Rattle.name.specs.Labels.{split}
use Rattle.name.specs.Answer.{answer, refusal}
use Rattle.encloser.specs.declared.Encloser.TheVariants.{OfOwner, OfNext}
use Rattle.encloser.specs.Encloser.{encloser_of, closest_of}
use Rattle.encloser.specs.Wildcard.{wildcard_of}

-- z., and a label of one octet under a name
abbrev apex : List ℕ
apex = 1 ∷ 122 ∷ 0 ∷ []

abbrev under : ℕ → List ℕ → List ℕ
under o name = 1 ∷ o ∷ name

-- between a.z. and c.z., b.z. has the encloser z. of both, which is the owner's
pub tie_of_owner : encloser_of (under 98 apex) (under 97 apex) (under 99 apex) ≡ OfOwner 3
unfolding read_from split
tie_of_owner = refl

-- between a.z. and x.c.z., b.c.z. has the encloser c.z. of the next name, which spells it C.z.
pub next_spelling : closest_of (under 98 (under 99 apex)) (under 97 apex) (under 120 (under 67 apex)) ≡ under 67 apex
unfolding read_from split
next_spelling = refl

-- the query c.z. itself, where the next name is under it
pub query_itself : encloser_of (under 99 apex) (under 97 apex) (under 120 (under 99 apex)) ≡ OfNext 5
unfolding read_from split
query_itself = refl

-- the owner A.z., where b.a.z. is under it
pub owner_itself : closest_of (under 98 (under 97 apex)) (under 65 apex) (under 99 apex) ≡ under 65 apex
unfolding read_from split
owner_itself = refl

-- but c.z. where the next name x.c.z. is under the owner too: b.c.z. is under z., and c.z. is an empty non-terminal
pub next_under_owner : encloser_of (under 98 (under 99 apex)) apex (under 120 (under 99 apex)) ≡ OfNext 5
unfolding read_from split
next_under_owner = refl

-- in the last gap, from x.c.z. to the apex, the query d.z. is under the apex
pub last_gap : encloser_of (under 100 apex) (under 120 (under 99 apex)) apex ≡ OfOwner 3
unfolding read_from split
last_gap = refl

-- and one that is not has no encloser there
pub last_gap_outside : encloser_of (1 ∷ 123 ∷ 0 ∷ []) (under 97 apex) apex ≡ OfOwner 0
unfolding read_from split
last_gap_outside = refl

-- a zone of one name: its gap goes from the apex to the apex
pub one_name : encloser_of (under 97 apex) apex apex ≡ OfOwner 3
unfolding read_from split
one_name = refl

-- a query that is the owner, letter case aside, is in no gap
pub owner_no_gap : encloser_of (under 65 apex) (under 97 apex) (under 98 apex) ≡ OfOwner 0
unfolding read_from split
owner_no_gap = refl

-- *.A.z.
pub wildcard_spelling : wildcard_of (under 65 apex) ≡ answer (under 42 (under 65 apex))
unfolding read_from split
wildcard_spelling = refl

-- what is no name has 4 with its reason and place, cut short at 2
pub wildcard_broken : wildcard_of (1 ∷ 65 ∷ []) ≡ refusal 4 (1 ∷ 2 ∷ [])
unfolding read_from split
wildcard_broken = refl

-- and so has what would be too long: 64 is no length of a label, at 0
pub wildcard_broken_first : wildcard_of (replicate 254 64) ≡ refusal 4 (3 ∷ 0 ∷ [])
unfolding read_from split
wildcard_broken_first = refl
