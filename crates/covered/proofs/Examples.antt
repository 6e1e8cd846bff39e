-- The first member past a name, at examples, by computation, over the full alphabet.
use mathlib.Core.Path.{◌≡◌, refl}
use mathlib.Core.List.{[], ◌∷◌}
use Rattle.order.specs.Place.{full}
use Rattle.zone.specs.Alphabet.{scan, from}
use Rattle.zone.specs.Steps.{least, raised, climb, deeper, successor_steps}

-- with 10 octets above the apex, past b.a and all under it: (b and the octet 0).a; its own successor is (the octet 0).b.a
pub past_b_a : successor_steps full 10 2 ((98 ∷ []) ∷ (97 ∷ []) ∷ []) ≡ (98 ∷ 0 ∷ []) ∷ (97 ∷ []) ∷ []
unfolding scan from least raised climb deeper successor_steps
past_b_a = refl

pub after_b_a : successor_steps full 10 127 ((98 ∷ []) ∷ (97 ∷ []) ∷ []) ≡ (0 ∷ []) ∷ (98 ∷ []) ∷ (97 ∷ []) ∷ []
unfolding scan from least raised climb deeper successor_steps
after_b_a = refl

-- with 3 octets above the apex, past the last label: the apex
pub past_last : successor_steps full 3 1 ((255 ∷ 255 ∷ []) ∷ []) ≡ []
unfolding scan from least raised climb deeper successor_steps
past_last = refl
