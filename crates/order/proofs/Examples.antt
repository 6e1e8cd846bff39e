-- Comparisons that a wrong order gets wrong, by computation (document 01, "Order" and "Comparing").
use mathlib.Core.Path.{◌≡◌, refl}
use mathlib.Core.List.{[], ◌∷◌}
use lib.IntN.{pos, negsuc}
use Rattle.name.specs.Answer.{answer}
use Rattle.name.specs.Wire.{read_from}
use Rattle.name.specs.Labels.{split}
use Rattle.order.specs.Compare.{compare_of}

-- octets are unsigned: `\200.` sorts after `\127.`
pub unsigned_octets : compare_of (1 ∷ 200 ∷ 0 ∷ []) (1 ∷ 127 ∷ 0 ∷ []) ≡ answer (pos 1)
unfolding read_from split
unsigned_octets = refl

-- the rightmost label decides: `a.b.` sorts after `z.a.`
pub from_the_right : compare_of (1 ∷ 97 ∷ 1 ∷ 98 ∷ 0 ∷ []) (1 ∷ 122 ∷ 1 ∷ 97 ∷ 0 ∷ []) ≡ answer (pos 1)
unfolding read_from split
from_the_right = refl

-- a missing octet sorts before any octet: `a.` before `a\000.`
pub missing_octet : compare_of (1 ∷ 97 ∷ 0 ∷ []) (2 ∷ 97 ∷ 0 ∷ 0 ∷ []) ≡ answer (negsuc 0)
unfolding read_from split
missing_octet = refl

-- a name sorts before every name under it: `a.` before `\000.a.`, with one label shared
pub missing_label : compare_of (1 ∷ 97 ∷ 0 ∷ []) (1 ∷ 0 ∷ 1 ∷ 97 ∷ 0 ∷ []) ≡ answer (negsuc 1)
unfolding read_from split
missing_label = refl

-- letter case does not count: `A.` and `a.`
pub letter_case : compare_of (1 ∷ 65 ∷ 0 ∷ []) (1 ∷ 97 ∷ 0 ∷ []) ≡ answer (pos 0)
unfolding read_from split
letter_case = refl
