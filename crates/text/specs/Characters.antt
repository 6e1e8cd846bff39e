-- The characters of names as people type them (document 02, One; RFC 1035 section 5.1).
use Rattle.std.specs.Prelude.{Bool, ◌&&◌, ◌||◌, not, ℕ, ◌+◌, ◌-◌, ◌*◌, eqb, leb}

-- the dot behind a label, and the backslash before an escape
abbrev pub dot : ℕ
dot = 46

abbrev pub backslash : ℕ
backslash = 92

abbrev pub printable : ℕ → Bool
printable c = leb 33 c && leb c 126

-- 0 to 9
abbrev pub digit : ℕ → Bool
digit c = leb 48 c && leb c 57

-- the number of the digits of v, followed by the digit c
abbrev pub number : ℕ → ℕ → ℕ
number v c = 10 * v + (c - 48)

-- a character that stands for itself
abbrev pub plain : ℕ → Bool
plain c = printable c && not (eqb c dot || eqb c backslash)

-- a character that is written behind a backslash: . \ " ; ( ) @ $
abbrev pub special : ℕ → Bool
special c =
    eqb c dot || eqb c backslash || eqb c 34 || eqb c 59 || eqb c 40 || eqb c 41 || eqb c 64 || eqb c 36
