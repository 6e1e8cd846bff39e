-- What the check of a list and the lookup in one answer (document 02, Six), with number 16 and its index: the sizes of a list are
-- arguments, and those of document 02 are put in at the end.
use Rattle.std.specs.Prelude.{List, [], ◌∷◌, Bool, ◌||◌, not, cond, ℕ, ◌+◌, ltb, length, get_or, Result as Outcome, Ok, Err}
use Rattle.name.specs.Wire.{reading_of}
use Rattle.name.specs.Answer.{Result, answer, refusal, refuse_if, refuse_broken, numbered}
use Rattle.owners.specs.declared.OwnersRefusal.{OwnersRefusal}
use Rattle.owners.specs.declared.OwnersRefusal.TheVariants.{NoList, Refused}
use Rattle.owners.specs.declared.Look.{Look}
use Rattle.owners.specs.declared.Found.{Found}
use Rattle.owners.specs.Layout.{owners_of}
use Rattle.owners.specs.Sizes.{most_owners, most_octets, is_too_large}
use Rattle.owners.specs.Members.{unbroken, starts_at_front}
use Rattle.owners.specs.Halving.{look_at, halving}

-- ---- the number and the values of each case

abbrev pub said : Outcome ℕ OwnersRefusal → Result ℕ
said (Ok n) = answer n
said (Err (Refused w)) = numbered w
said (Err (NoList i)) = refusal 16 (i ∷ [])

abbrev pub said_lookup : Outcome Found OwnersRefusal → Result Found
said_lookup (Ok f) = answer f
said_lookup (Err (Refused w)) = numbered w
said_lookup (Err (NoList i)) = refusal 16 (i ∷ [])

-- a line of the table: 16 with this index where the test holds
abbrev pub refuse_at : {A : Type 0} → Bool → ℕ → Result A → Result A
refuse_at test i next = cond test (refusal 16 (i ∷ [])) next

-- ---- the check

-- the number of owners, or the index of the first that breaks the list
abbrev pub check_list : List ℕ → ℕ → List (List ℕ) → Result ℕ
check_list apex limit owners =
    refuse_at (ltb (unbroken apex limit owners) (length owners)) (unbroken apex limit owners) (answer (length owners))

-- 0 for no owner, a first start above 0 or too large a list
abbrev pub check_laid_out : ℕ → ℕ → List ℕ → ℕ → List ℕ → List ℕ → Result ℕ
check_laid_out owners octets apex limit names starts =
    refuse_at (is_too_large owners octets names starts || not (starts_at_front starts)) 0 (check_list apex limit (owners_of names starts))

-- 1, 2 and 3, then 16
abbrev pub check_within : ℕ → ℕ → List ℕ → ℕ → List ℕ → List ℕ → Result ℕ
check_within owners octets apex limit names starts =
    refuse_if (ltb limit 1 || ltb 255 limit) 1
    (refuse_broken (reading_of apex) 2
    (refuse_if (ltb limit (length apex + 2)) 3
    (check_laid_out owners octets apex limit names starts)))

abbrev pub check_owners_of : List ℕ → ℕ → List ℕ → List ℕ → Result ℕ
check_owners_of apex limit names starts = check_within most_owners most_octets apex limit names starts

-- ---- the lookup

-- what the owner of an index tells of the query
abbrev pub look_in : List (List ℕ) → List ℕ → ℕ → Look
look_in owners query i = look_at query (get_or owners i [])

-- 4, then 16 with 0 for too large a list, then 16 with the index of an owner looked at that is no name
abbrev pub find_within : ℕ → ℕ → List ℕ → List ℕ → List ℕ → Result Found
find_within owners octets names starts query =
    refuse_broken (reading_of query) 4
    (refuse_at (is_too_large owners octets names starts) 0
    (halving (look_in (owners_of names starts) query) (length starts)))

abbrev pub find_owner_of : List ℕ → List ℕ → List ℕ → Result Found
find_owner_of names starts query = find_within most_owners most_octets names starts query
