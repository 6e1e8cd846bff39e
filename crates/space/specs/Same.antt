-- Whether octets are the same ones.
use Rattle.std.specs.Prelude.{List, [], ◌∷◌, Bool, true, false, ◌&&◌, ℕ, eqb}

abbrev pub same_octets : List ℕ → List ℕ → Bool
same_octets [] [] = true
same_octets [] (y ∷ t) = false
same_octets (x ∷ s) [] = false
same_octets (x ∷ s) (y ∷ t) = eqb x y && same_octets s t
