-- The labels of a key's octets, taken as they stand and with no test: what the parts of the key reader speak of.
use Rattle.std.specs.Prelude.{List, [], ◌∷◌, reverse, map, ℕ, zero, suc, length}
use Rattle.name.specs.Labels.{wire}
use Rattle.order.specs.Sequence.{labels}

-- the symbols of which these octets are the code
unfoldable pub symbols_in : List ℕ → List ℕ
symbols_in [] = []
symbols_in (zero ∷ s) = 0 ∷ symbols_in s
symbols_in (suc zero ∷ []) = []
symbols_in (suc zero ∷ x ∷ s) = x ∷ symbols_in s
symbols_in (suc (suc o) ∷ s) = suc (suc (suc o)) ∷ symbols_in s

-- their labels, the rightmost first
abbrev pub labels_in : List ℕ → List (List ℕ)
labels_in s = labels (symbols_in s)

-- how many octets each of these has
abbrev pub sizes_in : List ℕ → List ℕ
sizes_in s = map length (labels_in s)

-- the wire octets of the name with these labels
abbrev pub name_in : List ℕ → List ℕ
name_in s = wire (reverse (labels_in s))

-- the first of labels
abbrev pub first_label : List (List ℕ) → List ℕ
first_label [] = []
first_label (l ∷ ls) = l
