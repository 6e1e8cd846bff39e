-- Examples of texts, by computation.
use mathlib.Core.Path.{◌≡◌, refl}
use mathlib.Core.List.{[], ◌∷◌}
use Rattle.name.specs.Answer.{answer, refusal}
use Rattle.name.specs.Wire.{read_from}
use Rattle.name.specs.Labels.{split}
use Rattle.text.specs.WriteText.{label_text, labels_text, write_text_of}
use Rattle.text.specs.ReadText.{read_on, read_escape, read_second, read_third, read_text_of}

-- the label a.B, octet 200 and octet 36, and the label c
mixed_written : write_text_of (5 ∷ 97 ∷ 46 ∷ 66 ∷ 200 ∷ 36 ∷ 1 ∷ 99 ∷ 0 ∷ [])
    ≡ answer (97 ∷ 92 ∷ 46 ∷ 98 ∷ 92 ∷ 50 ∷ 48 ∷ 48 ∷ 92 ∷ 36 ∷ 46 ∷ 99 ∷ 46 ∷ [])
unfolding read_from split label_text labels_text
mixed_written = refl

root_written : write_text_of (0 ∷ []) ≡ answer (46 ∷ [])
unfolding read_from split
root_written = refl

-- a\.B\200$.c.
mixed_read : read_text_of (97 ∷ 92 ∷ 46 ∷ 66 ∷ 92 ∷ 50 ∷ 48 ∷ 48 ∷ 36 ∷ 46 ∷ 99 ∷ 46 ∷ [])
    ≡ answer (5 ∷ 97 ∷ 46 ∷ 66 ∷ 200 ∷ 36 ∷ 1 ∷ 99 ∷ 0 ∷ [])
unfolding read_on read_escape read_second read_third
mixed_read = refl

root_read : read_text_of (46 ∷ []) ≡ answer (0 ∷ [])
root_read = refl

-- the empty text, a final dot that is missing, two dots, an octet behind the root's dot
nothing_read : read_text_of [] ≡ refusal 14 (0 ∷ [])
nothing_read = refl

no_final_dot : read_text_of (97 ∷ []) ≡ refusal 14 (1 ∷ [])
unfolding read_on read_escape read_second read_third
no_final_dot = refl

two_dots : read_text_of (97 ∷ 46 ∷ 46 ∷ []) ≡ refusal 14 (2 ∷ [])
unfolding read_on read_escape read_second read_third
two_dots = refl

behind_root : read_text_of (46 ∷ 97 ∷ []) ≡ refusal 14 (1 ∷ [])
behind_root = refl

-- \2 can go on, \26 and \9 cannot
escape_open : read_text_of (92 ∷ 50 ∷ []) ≡ refusal 14 (2 ∷ [])
unfolding read_on read_escape read_second read_third
escape_open = refl

escape_above : read_text_of (92 ∷ 50 ∷ 54 ∷ 48 ∷ 46 ∷ []) ≡ refusal 14 (2 ∷ [])
unfolding read_on read_escape read_second read_third
escape_above = refl

escape_digit : read_text_of (92 ∷ 57 ∷ 46 ∷ []) ≡ refusal 14 (1 ∷ [])
unfolding read_on read_escape read_second read_third
escape_digit = refl
