-- Sets of types (document 02, Five): a set is a strictly rising list of numbers below 65,536. Pseudo-types count like others.
use Rattle.std.specs.Prelude.{List, [], ◌∷◌, Bool, false, cond, ◌||◌, ℕ, suc, ◌+◌, ◌≤◌, ◌<◌, eqb, leb, ltb}

-- the list strictly rises, from a number on and below another
pub data RisesIn : ℕ → ℕ → List ℕ → Type 0 where
  none : {least end : ℕ} → RisesIn least end []
  rises : {least end : ℕ} {ts : List ℕ} (t : ℕ) → least ≤ t → t < end → RisesIn (t + 1) end ts → RisesIn least end (t ∷ ts)

abbrev pub IsSet : List ℕ → Type 0
IsSet types = RisesIn 0 65536 types

-- how many types of a list, from the front on, rise: the first is `least` at least, and each other is above the one before it
unfoldable pub rising : ℕ → List ℕ → ℕ
rising least [] = 0
rising least (t ∷ ts) = cond (leb least t) (suc (rising (t + 1) ts)) 0

-- the types at the front that are below a number, and those from the first on that is not
unfoldable pub below : ℕ → List ℕ → List ℕ
below end [] = []
below end (t ∷ ts) = cond (ltb t end) (t ∷ below end ts) []

unfoldable pub from : ℕ → List ℕ → List ℕ
from end [] = []
from end (t ∷ ts) = cond (ltb t end) (from end ts) (t ∷ ts)

-- whether a type is in the set
unfoldable pub has : ℕ → List ℕ → Bool
has t [] = false
has t (u ∷ us) = eqb t u || has t us

-- the last of a type and those after it
abbrev pub last_of : ℕ → List ℕ → ℕ
last_of t [] = t
last_of t (u ∷ us) = last_of u us
