-- The octets of a label as a key has them.
use Rattle.std.specs.Prelude.{List, [], ◌∷◌, ℕ}
use Rattle.key.specs.Key.{coded}

-- octets so written
abbrev pub codes : List ℕ → List ℕ
codes [] = []
codes (o ∷ l) = coded o (codes l)
