-- Octets that are 0 or 1, which a key writes with two octets (document 01, "The sorting key").
use Rattle.std.specs.Prelude.{List, [], ◌∷◌, ℕ, zero, suc, ◌+◌}

-- 1 where the octet is 0 or 1
abbrev pub small_octet : ℕ → ℕ
small_octet zero = 1
small_octet (suc zero) = 1
small_octet (suc (suc o)) = 0

-- how many octets are 0 or 1
abbrev pub small_in : List ℕ → ℕ
small_in [] = 0
small_in (o ∷ l) = small_octet o + small_in l

-- how many label octets are 0 or 1
abbrev pub small : List (List ℕ) → ℕ
small [] = 0
small (l ∷ ls) = small_in l + small ls
