-- Octets, and what a space holds after octets are written over its front.
use Rattle.std.specs.Prelude.{ℕ, ◌<◌, List, [], ◌∷◌, ◌++◌, length, drop}

-- every number of the list is an octet
abbrev pub Octets : List ℕ → Type 0
Octets [] = Unit {0}
Octets (o ∷ s) = (o < 256) × Octets s

-- the first octets of a space are these, and the others are as before
abbrev pub overlay : List ℕ → List ℕ → List ℕ
overlay octets before = octets ++ drop (length octets) before
