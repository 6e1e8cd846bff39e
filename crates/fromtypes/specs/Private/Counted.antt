-- How many bits of octets are ones.
use Rattle.std.specs.Prelude.{List, [], ◌∷◌, ℕ, ◌+◌}
use Rattle.std.specs.Int.Count.{ones}

unfoldable pub ones_of : List ℕ → ℕ
ones_of [] = 0
ones_of (o ∷ s) = ones o + ones_of s
