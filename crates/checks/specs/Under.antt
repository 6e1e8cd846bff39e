-- Where a name stands in a zone: at or under the apex by folded labels, and the labels above it (document 01, "What a name is").
use Rattle.std.specs.Prelude.{List, [], ◌∷◌, ◌++◌, Bool, true, false, ◌&&◌, ℕ, ◌-◌, length, take, drop, leb}
use Rattle.space.specs.Same.{same_octets}
use Rattle.name.specs.Labels.{wire, labels_of}
use Rattle.order.specs.Order.{folded_labels}

abbrev pub same_labels : List (List ℕ) → List (List ℕ) → Bool
same_labels [] [] = true
same_labels [] (m ∷ ms) = false
same_labels (l ∷ ls) [] = false
same_labels (l ∷ ls) (m ∷ ms) = same_octets l m && same_labels ls ms

-- how many labels the name has more than the apex
abbrev pub more : List ℕ → List ℕ → ℕ
more apex name = length (labels_of name) - length (labels_of apex)

-- the name's last labels, folded, equal all the apex's labels
abbrev pub is_under : List ℕ → List ℕ → Bool
is_under apex name =
    leb (length (labels_of apex)) (length (labels_of name)) && same_labels (drop (more apex name) (folded_labels name)) (folded_labels apex)

-- the folded labels above the apex, of a name at or under it
abbrev pub above : List ℕ → List ℕ → List (List ℕ)
above apex name = take (more apex name) (folded_labels name)

-- the name whose labels above the apex are these
abbrev pub under : List ℕ → List (List ℕ) → List ℕ
under apex ls = wire (ls ++ folded_labels apex)
