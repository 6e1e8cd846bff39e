-- The table from which an escaped text is written: four octets for each octet.
use Rattle.std.specs.Prelude.{◌≡◌, List, [], ◌∷◌, ℕ, ◌+◌, ◌*◌, ◌/◌, ◌<◌, length, take, get_or}
use Rattle.space.specs.Fold.{lower_of}
use Rattle.text.specs.WriteText.{characters_of}

-- the first of these four octets are the characters of the octet o, folded, and the last, divided by 16, tells how many follow the first
abbrev pub Entry : ℕ → ℕ → ℕ → ℕ → ℕ → Type 0
Entry o a b c d =
    (1 + d / 16 ≡ length (characters_of (lower_of o)))
    × (take (length (characters_of (lower_of o))) (a ∷ b ∷ c ∷ d ∷ []) ≡ characters_of (lower_of o))

-- the table has the characters of every octet
abbrev pub Lists : List ℕ → Type 0
Lists table =
    (o : ℕ) → o < 256
    → Entry o (get_or table (o * 4) 0) (get_or table (o * 4 + 1) 0) (get_or table (o * 4 + 2) 0) (get_or table (o * 4 + 3) 0)
