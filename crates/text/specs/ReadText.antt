-- Reading a text (document 02, One): character by character, with the wire octets of the labels that are closed and the octets of the open
-- one; and where no text goes on so, the place. The laws show that exactly the texts of the grammar are read, as the name that they spell,
-- and that the place is the length of the longest beginning that some text also begins with.
use Rattle.std.specs.Prelude.{List, [], ◌∷◌, ◌++◌, Bool, ◌&&◌, cond, ℕ, ◌+◌, eqb, leb, ltb, length}
use Rattle.name.specs.Answer.{Result, answer, refusal}
use Rattle.name.specs.Reader.{Read, found, stops}
use Rattle.text.specs.Characters.{dot, backslash, printable, digit, number}

-- a further octet fits: a label has at most 63, and the name at most 255, with this label's length octet and the last 0
abbrev pub fits_in : ℕ → ℕ → Bool
fits_in done label = ltb label 63 && ltb (done + label) 253

abbrev pub fits : List ℕ → List ℕ → Bool
fits done label = fits_in (length done) (length label)

-- the open label, closed
abbrev pub close : List ℕ → List ℕ → List ℕ
close done label = done ++ length label ∷ label

-- no character is left at the place p: a text ends behind a label's dot
abbrev pub at_end : List ℕ → List ℕ → ℕ → Read
at_end done [] p = found (done ++ 0 ∷ [])
at_end done (o ∷ label) p = stops p

-- a dot at the place p: it closes a label that has octets; `next` is what reading on finds
abbrev pub at_dot : List ℕ → ℕ → Read → Read
at_dot [] p next = stops p
at_dot (o ∷ label) p next = next

-- a digit c at the place p, which goes on from the number v and must leave it at most `most`
abbrev pub at_digit : ℕ → ℕ → ℕ → ℕ → Read → Read
at_digit most v c p next = cond (digit c && leb (number v c) most) next (stops p)

unfoldable mutual
  -- reading on at the place p
  pub read_on : List ℕ → List ℕ → ℕ → List ℕ → Read
  read_on done label p [] = at_end done label p
  read_on done label p (c ∷ s) =
      cond (eqb c dot) (at_dot label p (read_on (close done label) [] (p + 1) s))
      (cond (fits done label)
      (cond (eqb c backslash) (read_escape done label (p + 1) s)
      (cond (printable c) (read_on done (label ++ c ∷ []) (p + 1) s) (stops p)))
      (stops p))

  -- behind a backslash
  pub read_escape : List ℕ → List ℕ → ℕ → List ℕ → Read
  read_escape done label p [] = stops p
  read_escape done label p (c ∷ s) =
      cond (digit c) (at_digit 2 0 c p (read_second (number 0 c) done label (p + 1) s))
      (cond (printable c) (read_on done (label ++ c ∷ []) (p + 1) s) (stops p))

  -- behind the first digit, and behind the second one
  pub read_second : ℕ → List ℕ → List ℕ → ℕ → List ℕ → Read
  read_second v done label p [] = stops p
  read_second v done label p (c ∷ s) = at_digit 25 v c p (read_third (number v c) done label (p + 1) s)

  pub read_third : ℕ → List ℕ → List ℕ → ℕ → List ℕ → Read
  read_third v done label p [] = stops p
  read_third v done label p (c ∷ s) = at_digit 255 v c p (read_on done (label ++ number v c ∷ []) (p + 1) s)

-- behind the root's dot
abbrev pub after_root : List ℕ → Read
after_root [] = found (0 ∷ [])
after_root (c ∷ s) = stops 1

-- reading a text
abbrev pub read_text : List ℕ → Read
read_text [] = stops 0
read_text (c ∷ s) = cond (eqb c dot) (after_root s) (read_on [] [] 0 (c ∷ s))

-- the name that was found, or 14 with the place
abbrev pub name_read : Read → Result (List ℕ)
name_read (found name) = answer name
name_read (stops p) = refusal 14 (p ∷ [])

-- reading a text: 14, or the name that it spells
abbrev pub read_text_of : List ℕ → Result (List ℕ)
read_text_of t = name_read (read_text t)
