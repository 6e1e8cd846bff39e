-- Examples by computation: the zone z. with the owners z., a.z. and b.z., what breaks a list of them and at which index, and what queries
-- find.
use mathlib.Core.Path.{◌≡◌, refl}
use mathlib.Core.List.{List, [], ◌∷◌, ◌++◌}
use Prim.Native.Nat.{ℕ}
use Rattle.name.specs.Answer.{answer, refusal}
use Rattle.name.specs.Wire.{read_from}
use Rattle.name.specs.Labels.{split}
use Rattle.owners.specs.declared.Found.TheVariants.{Owner, NoOwner}
use Rattle.owners.specs.Layout.{owners_of}
use Rattle.owners.specs.Members.{following}
use Rattle.owners.specs.Halving.{halve}
use Rattle.owners.specs.Answers.{check_owners_of, check_within, find_owner_of, find_within}

-- z., and an octet above it
abbrev z : List ℕ
z = 1 ∷ 122 ∷ 0 ∷ []

abbrev under : ℕ → List ℕ
under o = 1 ∷ o ∷ z

-- z., a.z. and b.z.
abbrev names : List ℕ
names = z ++ under 97 ++ under 98

abbrev starts : List ℕ
starts = 0 ∷ 3 ∷ 8 ∷ []

-- it is accepted for z. and for Z., in a zone of that size, and no other size
pub accepted : (check_owners_of z 255 names starts ≡ answer 3) × (check_owners_of (1 ∷ 90 ∷ 0 ∷ []) 5 names starts ≡ answer 3)
    × (check_within 3 13 z 255 names starts ≡ answer 3)
unfolding read_from split owners_of following
accepted = (refl, refl, refl)

-- too many owners, too many octets, no owner, and a first start above 0
pub no_list : (check_within 2 13 z 255 names starts ≡ refusal 16 (0 ∷ [])) × (check_within 3 12 z 255 names starts ≡ refusal 16 (0 ∷ []))
    × (check_owners_of z 255 [] [] ≡ refusal 16 (0 ∷ [])) × (check_owners_of z 255 names (3 ∷ 8 ∷ []) ≡ refusal 16 (0 ∷ []))
unfolding read_from split owners_of following
no_list = (refl, refl, refl, refl)

-- 1, 2 and 3 come first
pub zone_first : (check_owners_of [] 0 [] [] ≡ refusal 1 []) × (check_owners_of [] 255 [] [] ≡ refusal 2 (1 ∷ 0 ∷ []))
    × (check_owners_of z 4 [] [] ≡ refusal 3 [])
unfolding read_from split owners_of following
zone_first = (refl, refl, refl)

-- the apex not first, an owner twice, two exchanged, one with a capital letter, one outside the zone, and one beyond the limit
pub breaks : (check_owners_of z 255 (under 97 ++ under 98) (0 ∷ 5 ∷ []) ≡ refusal 16 (0 ∷ []))
    × (check_owners_of z 255 (z ++ under 97 ++ under 97) starts ≡ refusal 16 (2 ∷ []))
    × (check_owners_of z 255 (z ++ under 98 ++ under 97) starts ≡ refusal 16 (2 ∷ []))
    × (check_owners_of z 255 (z ++ under 65 ++ under 98) starts ≡ refusal 16 (1 ∷ []))
    × (check_owners_of z 255 (z ++ 3 ∷ 97 ∷ 1 ∷ 122 ∷ 0 ∷ []) (0 ∷ 3 ∷ []) ≡ refusal 16 (1 ∷ []))
    × (check_owners_of z 5 (z ++ under 97 ++ 2 ∷ 98 ∷ 98 ∷ z) starts ≡ refusal 16 (2 ∷ []))
unfolding read_from split owners_of following
breaks = (refl, refl, refl, refl, refl, refl)

-- starts that fall, stand still, or pass the end: the owner whose end that is breaks; and octets behind the last name are the last owner's
pub starts_break : (check_owners_of z 255 names (0 ∷ 3 ∷ 2 ∷ []) ≡ refusal 16 (1 ∷ []))
    × (check_owners_of z 255 names (0 ∷ 3 ∷ 3 ∷ 8 ∷ []) ≡ refusal 16 (1 ∷ []))
    × (check_owners_of z 255 names (0 ∷ 3 ∷ 14 ∷ []) ≡ refusal 16 (1 ∷ []))
    × (check_owners_of z 255 (names ++ 0 ∷ []) starts ≡ refusal 16 (2 ∷ []))
    × (check_owners_of z 255 (z ++ under 97) (0 ∷ 3 ∷ 9 ∷ []) ≡ refusal 16 (1 ∷ []))
unfolding read_from split owners_of following
starts_break = (refl, refl, refl, refl, refl)

-- the apex itself, b.z. in capital letters, \000.a.z. between two owners, and y., before them all
pub finds : (find_owner_of names starts z ≡ answer (Owner 0 2))
    × (find_owner_of names starts (1 ∷ 66 ∷ 1 ∷ 90 ∷ 0 ∷ []) ≡ answer (Owner 2 2))
    × (find_owner_of names starts (1 ∷ 0 ∷ under 97) ≡ answer (Owner 1 2))
    × (find_owner_of names starts (1 ∷ 121 ∷ 0 ∷ []) ≡ answer (NoOwner 2))
    × (find_owner_of [] [] z ≡ answer (NoOwner 0))
unfolding read_from split owners_of halve
finds = (refl, refl, refl, refl, refl)

-- 4 comes before 16; a broken owner counts where it is looked at
pub find_refused : (find_within 2 13 names starts [] ≡ refusal 4 (1 ∷ 0 ∷ [])) × (find_within 2 13 names starts z ≡ refusal 16 (0 ∷ []))
    × (find_owner_of names (0 ∷ 4 ∷ 8 ∷ []) z ≡ refusal 16 (1 ∷ []))
    × (find_owner_of names (1 ∷ 3 ∷ 8 ∷ []) (under 98) ≡ answer (Owner 2 2))
    × (find_owner_of names (1 ∷ 3 ∷ 8 ∷ []) z ≡ refusal 16 (0 ∷ []))
unfolding read_from split owners_of halve
find_refused = (refl, refl, refl, refl, refl)
