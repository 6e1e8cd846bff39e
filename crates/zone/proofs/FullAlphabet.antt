-- The full alphabet has every octet but 65 to 90: raising passes from 64 to 91, lowering from 91 to 64, and any other step is by one. A
-- folded name is spelled in it.
use mathlib.Core.Path.{◌≡◌, refl}
use mathlib.Core.List.{List, [], ◌∷◌, map}
use mathlib.Core.Option.{none, some}
use Prim.Native.Nat.{ℕ}
use native.Mathlib.Omega.{arith}
pub use Rattle.order.proofs.Full.{full_not_upper, not_upper_full}
use Rattle.space.specs.Octets.{Octets}
use Rattle.name.specs.Labels.{AllOctets}
use Rattle.space.specs.Fold.{folded}
use Rattle.name.proofs.Folding.{NoUpper, folded_no_upper, folded_octets}
use Rattle.order.specs.Place.{full}
use Rattle.order.proofs.Members.{Octet}
use Rattle.zone.specs.Alphabet.{scan, from, below}
use Rattle.zone.specs.Zone.{Spelled, AllSpelled}
use Rattle.zone.specs.Steps.{least, greatest}

-- ---- which octets it has

pub full_octet : Octet full 0
full_octet = (omega arith, tt)

-- ---- the next octet

pub next_64 : from full 65 ≡ some 91
unfolding from scan
next_64 = refl

pub next_255 : from full 256 ≡ none
unfolding from scan
next_255 = refl

-- ---- the octet before

pub before_91 : below full 91 ≡ some 64
unfolding below
before_91 = refl

pub before_0 : below full 0 ≡ none
unfolding below
before_0 = refl

pub least_full : least full ≡ 0
unfolding least from scan
least_full = refl

pub greatest_full : greatest full ≡ 255
unfolding greatest below
greatest_full = refl

-- ---- folded names

spelled_full : (l : List ℕ) → Octets l → NoUpper l → Spelled full l
spelled_full [] h k = tt
spelled_full (o ∷ l) h k = (h.0, not_upper_full o k.0, spelled_full l h.1 k.1)

pub folded_spelled : (ls : List (List ℕ)) → AllOctets ls → AllSpelled full (map folded ls)
folded_spelled [] h = tt
folded_spelled (l ∷ ls) h = (spelled_full (folded l) (folded_octets l h.0) (folded_no_upper l), folded_spelled ls h.1)
