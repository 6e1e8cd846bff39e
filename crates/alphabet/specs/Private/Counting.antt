-- How many octets of a list are no letters, digits or hyphens.
use Rattle.std.specs.Prelude.{List, [], ◌∷◌, cond, ℕ, suc}
use Rattle.alphabet.specs.Alphabets.{ldh, among}

unfoldable pub others : List ℕ → ℕ
others [] = 0
others (o ∷ l) = cond (among o ldh) (others l) (suc (others l))
