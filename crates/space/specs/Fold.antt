-- Folding octets: upper-case letters become lower-case ones, and no other octet changes (document 01, "What a name is").
use Rattle.std.specs.Prelude.{ℕ, ◌+◌, List, map, cond, leb}

-- 65 to 90 become 97 to 122
abbrev pub lower_of : ℕ → ℕ
lower_of o = cond (leb 65 o) (cond (leb o 90) (o + 32) o) o

-- length octets never reach 65, so every octet is folded alike
abbrev pub folded : List ℕ → List ℕ
folded s = map lower_of s
