-- The two alphabets of zones (document 02, Eight): the full one, and that of letters, digits and hyphens. Each is a test on octets, which
-- the definitions of the crate zone take.
use Rattle.std.specs.Prelude.{List, [], ◌∷◌, Bool, true, false, cond, ◌&&◌, ℕ, eqb}
use Rattle.std.proofs.Math.Option.{Option, none, some}
use Rattle.order.specs.Place.{full}
use Rattle.alphabet.specs.declared.Alphabet.{Alphabet}
use Rattle.alphabet.specs.declared.Alphabet.TheVariants.{Full, Ldh}

-- the hyphen, the digits and the lower-case letters, in rising order
unfoldable pub ldh : List ℕ
ldh =
    45
    ∷ 48 ∷ 49 ∷ 50 ∷ 51 ∷ 52 ∷ 53 ∷ 54 ∷ 55 ∷ 56 ∷ 57
    ∷ 97 ∷ 98 ∷ 99 ∷ 100 ∷ 101 ∷ 102 ∷ 103 ∷ 104 ∷ 105 ∷ 106 ∷ 107 ∷ 108 ∷ 109
    ∷ 110 ∷ 111 ∷ 112 ∷ 113 ∷ 114 ∷ 115 ∷ 116 ∷ 117 ∷ 118 ∷ 119 ∷ 120 ∷ 121 ∷ 122
    ∷ []

-- o is an entry of the list
unfoldable pub among : ℕ → List ℕ → Bool
among o [] = false
among o (p ∷ l) = cond (eqb o p) true (among o l)

-- the octets that labels above the apex may have
abbrev pub allowed : Alphabet → ℕ → Bool
allowed Full = full
allowed Ldh = λ o. among o ldh

-- every octet of a label, and of labels, is one that the alphabet allows
abbrev pub spelled : Alphabet → List ℕ → Bool
spelled alphabet [] = true
spelled alphabet (o ∷ l) = allowed alphabet o && spelled alphabet l

abbrev pub all_spelled : Alphabet → List (List ℕ) → Bool
all_spelled alphabet [] = true
all_spelled alphabet (l ∷ ls) = spelled alphabet l && all_spelled alphabet ls

-- the octet that was found, or else this one
abbrev pub or_this : Option ℕ → ℕ → ℕ
or_this (some p) o = p
or_this none o = o
