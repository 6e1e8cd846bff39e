-- The octets of labels in a name, without the zero octet that ends it.
use Rattle.std.specs.Prelude.{List, [], ◌∷◌, ◌++◌, ℕ, length}

-- each label behind its length octet, and no zero octet after them
abbrev pub label_octets : List (List ℕ) → List ℕ
label_octets [] = []
label_octets (l ∷ ls) = length l ∷ l ++ label_octets ls
