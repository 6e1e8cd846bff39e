-- How an exported function hands back what its operation says: one number, of the number in the lowest octet, the reason in the next,
-- and the value in the rest.
use Rattle.std.specs.Prelude.{◌≡◌, List, ℕ, ◌+◌, ◌-◌, ◌*◌, ◌^◌, ℤ, pos, negsuc}
use Rattle.name.specs.Answer.{Result, answer, refusal, number, reason, value, Fills}
use Rattle.owners.specs.declared.Found.{Found}
use Rattle.owners.specs.declared.Found.TheVariants.{Owner, NoOwner}
use Rattle.gaps.specs.Denies.{Denies}
use Rattle.encloser.specs.declared.Encloser.{Encloser}
use Rattle.encloser.specs.declared.Encloser.TheVariants.{OfOwner, OfNext}

abbrev pub packed : Result ℕ → ℕ
packed r = number r + 2 ^ 8 * reason r + 2 ^ 16 * value r

-- a comparison as a value: 128 plus the number, so 1 to 255
abbrev pub shifted : ℤ → ℕ
shifted (pos n) = 128 + n
shifted (negsuc n) = 127 - n

abbrev pub compared : Result ℤ → Result ℕ
compared (answer z) = answer (shifted z)
compared (refusal n vs) = refusal n vs

-- where a closest encloser stands, as a value: its number of octets, plus 2 to the 8th where they are the end of the next name
abbrev pub placed : Encloser → Result ℕ
placed (OfOwner n) = answer n
placed (OfNext n) = answer (n + 2 ^ 8)

-- what a lookup finds, as a value: the number of owners looked at, plus 2 to the 8th times 1 plus the index of the owner, or 0 for none
abbrev pub found_value : Found → ℕ
found_value (Owner i looks) = looks + 2 ^ 8 * (1 + i)
found_value (NoOwner looks) = looks

abbrev pub found : Result Found → Result ℕ
found (answer f) = answer (found_value f)
found (refusal n vs) = refusal n vs

-- the promise of an exported function that fills space: what is said, packed, and every octet of the space
abbrev pub Exports : Result (List ℕ) → List ℕ → ℕ → List ℕ → Type 0
Exports result before returned after = (words : Result ℕ) × (returned ≡ packed words) × Fills result before words after

-- the same of one that fills space with names back to back
abbrev pub ExportsNames : Result (List (List ℕ)) → List ℕ → ℕ → List ℕ → Type 0
ExportsNames result before returned after = (words : Result ℕ) × (returned ≡ packed words) × Denies result before words after
