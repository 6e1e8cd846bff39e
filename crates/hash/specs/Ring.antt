-- The hash after a hash and the hash before it (document 02, Twelve): one is added to the last octet, where 255 becomes 0 and carries, and
-- taken from it, where 0 becomes 255 and borrows. The laws say, over any number n of octets, that this is one more and one less as a number
-- modulo 256 ^ n.
use Rattle.std.specs.Prelude.{ℕ, ◌+◌, ◌-◌, ◌/◌, ◌%◌, cond, List, [], ◌∷◌, nat_lt}

-- what is carried beyond the octets where one is added to the last
unfoldable pub carried : List ℕ → ℕ
carried [] = 1
carried (o ∷ s) = (o + carried s) / 256

unfoldable pub after : List ℕ → List ℕ
after [] = []
after (o ∷ s) = (o + carried s) % 256 ∷ after s

-- what is borrowed from beyond the octets where one is taken from the last
unfoldable pub borrowed : List ℕ → ℕ
borrowed [] = 1
borrowed (o ∷ s) = cond (nat_lt o (borrowed s)) 1 0

unfoldable pub before : List ℕ → List ℕ
before [] = []
before (o ∷ s) = (o + 256 - borrowed s) % 256 ∷ before s
