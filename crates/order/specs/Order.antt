-- The canonical order of names (document 01, "Order"; RFC 4034 section 6.1).
use Rattle.std.specs.Prelude.{◌≡◌, List, [], ◌∷◌, map, reverse, ◌⊎◌, ℕ, ◌<◌}
use Rattle.name.specs.Labels.{labels_of}
use Rattle.space.specs.Fold.{folded}

infix 50 ◌⊏◌
-- octets compare as unsigned numbers from their left end, and a missing octet sorts before any octet
abbrev pub ◌⊏◌ : List ℕ → List ℕ → Type 0
[] ⊏ [] = ⊥
[] ⊏ (y ∷ t) = Unit {0}
(x ∷ s) ⊏ [] = ⊥
(x ∷ s) ⊏ (y ∷ t) = (x < y) ⊎ ((x ≡ y) × (s ⊏ t))

-- labels, the rightmost first: the first that differ decide, and a missing label sorts before any label
abbrev pub FromRight : List (List ℕ) → List (List ℕ) → Type 0
FromRight [] [] = ⊥
FromRight [] (m ∷ ms) = Unit {0}
FromRight (l ∷ ls) [] = ⊥
FromRight (l ∷ ls) (m ∷ ms) = (l ⊏ m) ⊎ ((l ≡ m) × FromRight ls ms)

-- labels as a name has them, the leftmost first, compare from the right
abbrev pub Before : List (List ℕ) → List (List ℕ) → Type 0
Before ls ms = FromRight (reverse ls) (reverse ms)

-- the labels of a name, folded, as the order takes them
abbrev pub folded_labels : List ℕ → List (List ℕ)
folded_labels name = map folded (labels_of name)

-- the first name sorts before the second
abbrev pub SortsBefore : List ℕ → List ℕ → Type 0
SortsBefore first second = Before (folded_labels first) (folded_labels second)
