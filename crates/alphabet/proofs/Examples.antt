-- Steps of the two alphabets, worked out, with the octets at their ends.
use mathlib.Core.Path.{◌≡◌, refl}
use mathlib.Core.List.{[], ◌∷◌}
use mathlib.Core.Option.{none, some}
use mathlib.Core.Bool.{true, false}
use native.Mathlib.Omega.{arith}
use Rattle.space.specs.Fold.{folded}
use Rattle.order.specs.Place.{full}
use Rattle.zone.specs.Alphabet.{scan, from, below}
use Rattle.zone.specs.Steps.{least, greatest}
use Rattle.zone.proofs.FullAlphabet.{least_full, greatest_full}
use Rattle.alphabet.specs.declared.Alphabet.{Alphabet}
use Rattle.alphabet.specs.declared.Alphabet.TheVariants.{Full, Ldh}
use Rattle.alphabet.specs.Alphabets.{ldh, among, allowed, or_this}
use Rattle.alphabet.proofs.Extremes.{greatest_last, least_first, next_found, previous_found}
use Rattle.alphabet.proofs.Folded.{allowed_hyphen, least_kept, greatest_kept}
use Rattle.alphabet.proofs.Ldh.{least_ldh, greatest_ldh}

-- the octets - 9 a z, and between them . @ A _
ldh_members : (allowed Ldh 45 ≡ true) × (allowed Ldh 57 ≡ true) × (allowed Ldh 97 ≡ true) × (allowed Ldh 122 ≡ true)
    × (allowed Ldh 46 ≡ false) × (allowed Ldh 64 ≡ false) × (allowed Ldh 65 ≡ false) × (allowed Ldh 95 ≡ false)
unfolding among ldh
ldh_members = (refl, refl, refl, refl, refl, refl, refl, refl)

-- after - comes 0, after 9 comes a; before a comes 9, before 0 comes -
ldh_steps : (from (allowed Ldh) 46 ≡ some 48) × (from (allowed Ldh) 58 ≡ some 97)
    × (below (allowed Ldh) 97 ≡ some 57) × (below (allowed Ldh) 48 ≡ some 45)
unfolding from scan below among ldh
ldh_steps = (refl, refl, refl, refl)

-- z is the last octet and - the first
ldh_ends : (from (allowed Ldh) 123 ≡ none) × (below (allowed Ldh) 45 ≡ none)
ldh_ends = (rw greatest_ldh at (greatest_last (allowed Ldh)), rw least_ldh at (least_first (allowed Ldh)))

-- in both alphabets the hyphen has a next octet
hyphen_next : (alphabet : Alphabet) → from (allowed alphabet) 46 ≡ some (or_this (from (allowed alphabet) 46) 45)
hyphen_next Full = next_found full 45 (allowed_hyphen Full) (λ e. omega (arith, greatest_full))
hyphen_next Ldh = next_found (allowed Ldh) 45 (allowed_hyphen Ldh) (λ e. omega (arith, greatest_ldh))

-- and in the full one a previous octet
hyphen_previous : below full 45 ≡ some (or_this (below full 45) 45)
hyphen_previous = previous_found full 45 (allowed_hyphen Full) (λ e. omega (arith, least_full))

-- a label of the greatest and the least octet is folded
ends_folded : (alphabet : Alphabet)
    → folded (greatest (allowed alphabet) ∷ least (allowed alphabet) ∷ []) ≡ greatest (allowed alphabet) ∷ least (allowed alphabet) ∷ []
ends_folded alphabet = rw (greatest_kept alphabet, least_kept alphabet)
