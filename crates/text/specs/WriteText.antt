-- Writing the text of a name (document 02, One).
use Rattle.std.specs.Prelude.{List, [], ◌∷◌, ◌++◌, cond, ℕ, ◌+◌, ◌/◌, ◌%◌}
use Rattle.name.specs.Wire.{reading_of}
use Rattle.name.specs.Answer.{Result, answer, refuse_broken}
use Rattle.order.specs.Order.{folded_labels}
use Rattle.text.specs.Characters.{dot, backslash, printable, special}

-- a backslash and the three digits of an octet
abbrev pub number_of : ℕ → List ℕ
number_of o = backslash ∷ (48 + o / 10 / 10) ∷ (48 + o / 10 % 10) ∷ (48 + o % 10) ∷ []

-- the characters of an octet: 33 to 126 are left as they are, or take a backslash
abbrev pub characters_of : ℕ → List ℕ
characters_of o = cond (printable o) (cond (special o) (backslash ∷ o ∷ []) (o ∷ [])) (number_of o)

-- those of a label's octets
unfoldable pub label_text : List ℕ → List ℕ
label_text [] = []
label_text (o ∷ l) = characters_of o ++ label_text l

-- labels, with a dot after each
unfoldable pub labels_text : List (List ℕ) → List ℕ
labels_text [] = []
labels_text (l ∷ ls) = label_text l ++ dot ∷ labels_text ls

-- the root as a single dot
abbrev pub text_of : List (List ℕ) → List ℕ
text_of [] = dot ∷ []
text_of (l ∷ ls) = labels_text (l ∷ ls)

-- writing a name's text: 4, or the text of its folded labels
abbrev pub write_text_of : List ℕ → Result (List ℕ)
write_text_of name = refuse_broken (reading_of name) 4 (answer (text_of (folded_labels name)))
