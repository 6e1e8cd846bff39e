-- Whether a hash lies strictly between two others on the ring (document 02, Twelve), going up from the first, by their numbers.
use Rattle.std.specs.Prelude.{ℕ, Bool, cond, ◌&&◌, ◌||◌, List, nat_lt}
use Rattle.hash.specs.Digits.{value}

-- where the first is not below the second, the way up goes round; where the two are equal, every other number lies between
abbrev pub between : ℕ → ℕ → ℕ → Bool
between first v second = cond (nat_lt first second) (nat_lt first v && nat_lt v second) (nat_lt first v || nat_lt v second)

abbrev pub lies_between : List ℕ → List ℕ → List ℕ → Bool
lies_between first hash second = between (value 256 first) (value 256 hash) (value 256 second)
