-- A hash as an array of 20 octets.
use Rattle.std.specs.Prelude.{ℕ, cond, List, length, replicate, ◌==◌}

-- the octets, and 0 where they are no hash
abbrev pub array_of : List ℕ → List ℕ
array_of octets = cond (length octets == 20) octets (replicate 20 0)
