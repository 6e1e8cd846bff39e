-- The labels of a name, leftmost first, and their wire octets (document 01, "What a name is").
use Rattle.std.specs.Prelude.{ℕ, zero, suc, ◌≤◌, List, [], ◌∷◌, ◌++◌, cond, length, eqb}
use Rattle.space.specs.Octets.{Octets}

-- each label behind its length octet, and one zero octet
abbrev pub wire : List (List ℕ) → List ℕ
wire [] = 0 ∷ []
wire (l ∷ ls) = length l ∷ l ++ wire ls

-- every label has 1 to 63 numbers
abbrev pub Sizes : List (List ℕ) → Type 0
Sizes [] = Unit {0}
Sizes (l ∷ ls) = (1 ≤ length l) × (length l ≤ 63) × Sizes ls

-- every number of every label is an octet
abbrev pub AllOctets : List (List ℕ) → Type 0
AllOctets [] = Unit {0}
AllOctets (l ∷ ls) = Octets l × AllOctets ls

-- the labels of a name: 1 to 63 octets each, and 1 to 255 octets in all
pub record IsName (ls : List (List ℕ)) : Type 0 where
  pub sizes : Sizes ls
  pub octets : AllOctets ls
  pub fits : length (wire ls) ≤ 255

-- one more octet before the first label
abbrev pub onto : ℕ → List (List ℕ) → List (List ℕ)
onto o [] = (o ∷ []) ∷ []
onto o (l ∷ ls) = (o ∷ l) ∷ ls

-- what is left of a label of which k octets are still to come, and the labels after it
unfoldable pub split : ℕ → List ℕ → List (List ℕ)
split k [] = [] ∷ []
split zero (o ∷ s) = [] ∷ cond (eqb o 0) [] (split o s)
split (suc k) (o ∷ s) = onto o (split k s)

abbrev pub rest : List (List ℕ) → List (List ℕ)
rest [] = []
rest (l ∷ ls) = ls

-- the labels of wire octets
abbrev pub labels_of : List ℕ → List (List ℕ)
labels_of s = rest (split 0 s)
