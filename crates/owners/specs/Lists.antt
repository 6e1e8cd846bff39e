-- What a list of owners is (document 02, Six), over names: first the apex, and then members of the zone in the canonical order, each once;
-- and how it is laid out as names and starts.
use Rattle.std.specs.Prelude.{◌≡◌, List, [], ◌∷◌, ◌++◌, ℕ, ◌+◌, length}
use Rattle.space.specs.Fold.{folded}
use Rattle.order.specs.Order.{SortsBefore}
use Rattle.neighbour.specs.Nearest.{InZone}

-- names of a set, each of which sorts after the one before it
pub data Rises (In : List ℕ → Type 0) : List ℕ → List (List ℕ) → Type 0 where
  none : {before : List ℕ} → Rises In before []
  next : {before : List ℕ} {names : List (List ℕ)} (name : List ℕ) → In name → SortsBefore before name → Rises In name names
      → Rises In before (name ∷ names)

-- the apex, folded, and members of the zone behind it
pub record IsList (apex : List ℕ) (limit : ℕ) (owners : List (List ℕ)) : Type 0 where
  pub others : List (List ℕ)
  pub first : owners ≡ folded apex ∷ others
  pub rises : Rises (InZone apex limit) (folded apex) others

-- the names back to back
unfoldable pub joined : List (List ℕ) → List ℕ
joined [] = []
joined (o ∷ os) = o ++ joined os

-- the starts of names that begin at a place
unfoldable pub starts_from : ℕ → List (List ℕ) → List ℕ
starts_from at [] = []
starts_from at (o ∷ os) = at ∷ starts_from (at + length o) os

-- names and starts that lay out these owners
pub record LaysOut (owners : List (List ℕ)) (names starts : List ℕ) : Type 0 where
  pub octets : names ≡ joined owners
  pub places : starts ≡ starts_from 0 owners
