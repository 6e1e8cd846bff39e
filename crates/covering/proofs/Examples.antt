-- Gaps and next closer names that a wrong definition gets wrong, by computation.
use mathlib.Core.Path.{◌≡◌, refl}
use mathlib.Core.List.{List, [], ◌∷◌}
use mathlib.Core.Bool.{true, false, ◌&&◌, ◌||◌}
use Prim.Native.Nat.{ℕ}
use Rattle.name.specs.Wire.{read_from}
use Rattle.name.specs.Labels.{split}
use Rattle.covering.specs.Between.{covers_of}
use Rattle.covering.specs.NextCloser.{next_closer_of}

-- z., and a label of one octet under a name
abbrev apex : List ℕ
apex = 1 ∷ 122 ∷ 0 ∷ []

abbrev under : ℕ → List ℕ → List ℕ
under o name = 1 ∷ o ∷ name

-- from a.z. to C.z.: b.z. and b.a.z., letter case aside
pub covers_inside : covers_of (under 97 apex) (under 67 apex) (under 66 apex)
    && covers_of (under 97 apex) (under 67 apex) (under 98 (under 97 apex))
    ≡ true
unfolding read_from split
covers_inside = refl

-- neither end, and nothing outside
pub covers_not_ends : covers_of (under 97 apex) (under 99 apex) (under 65 apex) || covers_of (under 97 apex) (under 99 apex) (under 99 apex)
    || covers_of (under 97 apex) (under 99 apex) (under 100 apex) || covers_of (under 97 apex) (under 99 apex) apex
    ≡ false
unfolding read_from split
covers_not_ends = refl

-- from c.z. round to z.: what is after c.z. and what is before z., and not a.z.
pub covers_round : covers_of (under 99 apex) apex (under 100 apex) && covers_of (under 99 apex) apex (1 ∷ 121 ∷ 0 ∷ []) ≡ true
unfolding read_from split
covers_round = refl

covers_not_round : covers_of (under 99 apex) apex (under 97 apex) || covers_of (under 99 apex) apex apex ≡ false
unfolding read_from split
covers_not_round = refl

-- from a name to itself: all others
pub covers_one_name : covers_of apex apex (under 97 apex) && covers_of apex apex (1 ∷ 121 ∷ 0 ∷ []) ≡ true
unfolding read_from split
covers_one_name = refl

-- of what is no name, nothing
covers_no_name : covers_of apex apex (1 ∷ 97 ∷ []) ≡ false
unfolding read_from split
covers_no_name = refl

-- of C.b.a.z. under A.Z. it is b.a.z., as the query spells it
pub closer_of_three : next_closer_of (under 65 (1 ∷ 90 ∷ 0 ∷ [])) (under 67 (under 98 (under 97 apex))) ≡ under 98 (under 97 apex)
unfolding read_from split
closer_of_three = refl

-- of a.z. under z. the query itself
pub closer_itself : next_closer_of apex (under 65 apex) ≡ under 65 apex
unfolding read_from split
closer_itself = refl

-- none of the encloser itself, and none of a query outside
pub closer_none : next_closer_of (under 97 apex) (under 65 apex) ≡ []
unfolding read_from split
closer_none = refl

closer_outside : next_closer_of (under 97 apex) (under 97 (under 98 apex)) ≡ []
unfolding read_from split
closer_outside = refl
