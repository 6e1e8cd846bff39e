-- What octets are a name: the reading of wire octets from the left, with document 01's five tests at a length octet and their places
-- (RFC 1034 section 3.1).
use Rattle.std.specs.Prelude.{ℕ, zero, suc, ◌+◌, List, [], ◌∷◌, cond, ltb, eqb, Result, Ok, Err}
use Rattle.name.specs.declared.Fault.{Fault}
use Rattle.name.specs.declared.Fault.TheVariants.{CutShort, LeftOver, BadLength, TooLong}

-- what reading finds: nothing to say of one whole name, or why octets are none
abbrev pub Reading : Type 0
Reading = Result (Unit {0}) Fault

-- the name has ended before the place p, and the octets s follow
abbrev pub ended : ℕ → List ℕ → Reading
ended p [] = Ok tt
ended p (x ∷ s) = Err (LeftOver p)

-- at the place p stands the length octet o, the octets s follow, and `next` is what reading on finds
abbrev pub at_length : ℕ → ℕ → List ℕ → Reading → Reading
at_length p o s next =
    cond (eqb o 0) (ended (p + 1) s)
    (cond (ltb 63 o) (Err (BadLength p))
    (cond (ltb 254 (p + 1 + o)) (Err (TooLong p)) next))

-- reading on at the place p, where k octets of a label are still to come; past the last octet, p is the input's length
unfoldable pub read_from : ℕ → ℕ → List ℕ → Reading
read_from p k [] = Err (CutShort p)
read_from p zero (o ∷ s) = at_length p o s (read_from (p + 1) o s)
read_from p (suc k) (o ∷ s) = read_from (p + 1) k s

-- what reading octets as one whole name finds
abbrev pub reading_of : List ℕ → Reading
reading_of s = read_from 0 0 s
