-- The canonical sequence of a name: its labels from the right, each octet o as the symbol o + 1, each label closed by the symbol 0.
-- Its length is the wire length less 1, and the plain order of sequences is the canonical order of names.
use Rattle.std.specs.Prelude.{List, [], ◌∷◌, reverse, ℕ, zero, suc}

-- a label and the symbol that closes it, before the symbols k
unfoldable pub closed : List ℕ → List ℕ → List ℕ
closed [] k = 0 ∷ k
closed (o ∷ l) k = suc o ∷ closed l k

-- of labels, the rightmost first
unfoldable pub symbols : List (List ℕ) → List ℕ
symbols [] = []
symbols (l ∷ ls) = closed l (symbols ls)

-- of a name's labels, the leftmost first
abbrev pub sequence : List (List ℕ) → List ℕ
sequence ls = symbols (reverse ls)

-- the octet o at the front of the first label
abbrev pub on_first : ℕ → List (List ℕ) → List (List ℕ)
on_first o [] = []
on_first o (l ∷ ls) = (o ∷ l) ∷ ls

-- the labels of a sequence, the rightmost first
unfoldable pub labels : List ℕ → List (List ℕ)
labels [] = []
labels (zero ∷ s) = [] ∷ labels s
labels (suc o ∷ s) = on_first o (labels s)
