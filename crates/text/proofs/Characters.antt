-- The characters of an octet: which of three forms it has (`form`), that the width tells the form, that folding keeps the width, and
-- that the characters spell the octet (`characters_spell`).
use mathlib.Core.Path.{◌≡◌, refl, sym, ap, ◌∙◌}
use mathlib.Core.List.{[], ◌∷◌}
use mathlib.Core.Bool.{Bool, true, false, ◌&&◌, ◌||◌, not, cond, true≢false, false≢true}
use Prim.Native.Nat.{ℕ, ◌+◌, ◌*◌, ◌/◌, ◌%◌, ◌≤◌, ◌<◌}
use native.Mathlib.Nat.{div-add-mod, mod-lt}
use native.Mathlib.Omega.{arith}
use borrow.Author.Tests.{le-leb, lt-leb, eqb-true, not-true, not-false}
use lib.Dec.{T, leb, eqb}
use lib.ListN.{length}
use Rattle.facts.proofs.Booleans.{neither_true, never_true}
use Rattle.space.specs.Fold.{lower_of}
use Rattle.name.proofs.Folding.{Case, letter, other, lower_case}
use Rattle.text.specs.Characters.{dot, backslash, printable, digit, special}
use Rattle.text.specs.Grammar.{Spells, itself, escaped, numbered}
use Rattle.text.specs.WriteText.{number_of, characters_of}

-- ---- the special characters

-- what holds of the eight special characters holds of every character that is special
pub special_cases : (P : ℕ → Type 0) → P 46 → P 92 → P 34 → P 59 → P 40 → P 41 → P 64 → P 36 → (o : ℕ) → special o ≡ true → P o
special_cases P a b c d e f g h o s =
    go (eqb o 46) (eqb o 92) (eqb o 34) (eqb o 59) (eqb o 40) (eqb o 41) (eqb o 64) (eqb o 36) refl refl refl refl refl refl refl refl s
  where
    is : (n : ℕ) → eqb o n ≡ true → P n → P o
    is n t p = rw (eqb-true o n t) p

    go : (a b c d e f g h : Bool) → eqb o 46 ≡ a → eqb o 92 ≡ b → eqb o 34 ≡ c → eqb o 59 ≡ d → eqb o 40 ≡ e → eqb o 41 ≡ f
        → eqb o 64 ≡ g → eqb o 36 ≡ h → (a || b || c || d || e || f || g || h) ≡ true → P o
    go true _ _ _ _ _ _ _ t _ _ _ _ _ _ _ _ = is 46 t a
    go false true _ _ _ _ _ _ _ t _ _ _ _ _ _ _ = is 92 t b
    go false false true _ _ _ _ _ _ _ t _ _ _ _ _ _ = is 34 t c
    go false false false true _ _ _ _ _ _ _ t _ _ _ _ _ = is 59 t d
    go false false false false true _ _ _ _ _ _ _ t _ _ _ _ = is 40 t e
    go false false false false false true _ _ _ _ _ _ _ t _ _ _ = is 41 t f
    go false false false false false false true _ _ _ _ _ _ _ t _ _ = is 64 t g
    go false false false false false false false true _ _ _ _ _ _ _ t _ = is 36 t h
    go false false false false false false false false _ _ _ _ _ _ _ _ s = absurd (false≢true s)

-- ---- the forms

module _ (o : ℕ) where
  pub characters_number : printable o ≡ false → characters_of o ≡ number_of o
  characters_number e = rw e

  pub characters_special : printable o ≡ true → special o ≡ true → characters_of o ≡ backslash ∷ o ∷ []
  characters_special e s = rw (e, s)

  pub characters_plain : printable o ≡ true → special o ≡ false → characters_of o ≡ o ∷ []
  characters_plain e s = rw (e, s)

-- an octet is written alone, behind a backslash, or as digits
data Form (o : ℕ) : Type 0 where
  alone : printable o ≡ true → special o ≡ false → characters_of o ≡ o ∷ [] → Form o
  behind : printable o ≡ true → special o ≡ true → characters_of o ≡ backslash ∷ o ∷ [] → Form o
  digits : printable o ≡ false → characters_of o ≡ number_of o → Form o

form : (o : ℕ) → Form o
form o = go (printable o) (special o) refl refl
  where
    go : (a b : Bool) → printable o ≡ a → special o ≡ b → Form o
    go false b e f = digits e (characters_number o e)
    go true false e f = alone e f (characters_plain o e f)
    go true true e f = behind e f (characters_special o e f)

-- ---- the width

pub width_some : (o : ℕ) → 1 ≤ length (characters_of o)
width_some o = go (form o)
  where
    go : Form o → 1 ≤ length (characters_of o)
    go (alone p s e) = omega (arith, ap length e)
    go (behind p s e) = omega (arith, ap length e)
    go (digits p e) = omega (arith, ap length e)

pub width_four : (o : ℕ) → length (characters_of o) ≤ 4
width_four o = go (form o)
  where
    go : Form o → length (characters_of o) ≤ 4
    go (alone p s e) = omega (arith, ap length e)
    go (behind p s e) = omega (arith, ap length e)
    go (digits p e) = omega (arith, ap length e)

pub width_alone : (o : ℕ) → length (characters_of o) ≡ 1 → characters_of o ≡ o ∷ []
width_alone o w = go (form o)
  where
    go : Form o → characters_of o ≡ o ∷ []
    go (alone p s e) = e
    go (behind p s e) = absurd (omega (arith, w, ap length e))
    go (digits p e) = absurd (omega (arith, w, ap length e))

pub width_behind : (o : ℕ) → length (characters_of o) ≡ 2 → characters_of o ≡ backslash ∷ o ∷ []
width_behind o w = go (form o)
  where
    go : Form o → characters_of o ≡ backslash ∷ o ∷ []
    go (alone p s e) = absurd (omega (arith, w, ap length e))
    go (behind p s e) = e
    go (digits p e) = absurd (omega (arith, w, ap length e))

pub width_digits : (o : ℕ) → (length (characters_of o) ≡ 1 → ⊥) → (length (characters_of o) ≡ 2 → ⊥) → characters_of o ≡ number_of o
width_digits o f g = go (form o)
  where
    go : Form o → characters_of o ≡ number_of o
    go (alone p s e) = absurd (f (ap length e))
    go (behind p s e) = absurd (g (ap length e))
    go (digits p e) = e

-- no octet is special that is not printable
special_printable : (o : ℕ) → printable o ≡ false → special o ≡ false
special_printable o e =
    never_true (special o) (λ s.
    false≢true (sym e ∙ special_cases (λ (n : ℕ). printable n ≡ true) refl refl refl refl refl refl refl refl o s))

-- the characters beside the first: one of a special octet, three of one that is not printable
pub width_parts : (o : ℕ) → length (characters_of o) ≡ 1 + cond (special o) 1 0 + 3 * cond (not (printable o)) 1 0
width_parts o = go (form o)
  where
    go : Form o → length (characters_of o) ≡ 1 + cond (special o) 1 0 + 3 * cond (not (printable o)) 1 0
    go (alone p s e) = ap length e ∙ rw (p, s)
    go (behind p s e) = ap length e ∙ rw (p, s)
    go (digits p e) = ap length e ∙ rw (p, special_printable o p)

pub parts_few : (o : ℕ) → cond (special o) 1 0 + cond (not (printable o)) 1 0 ≤ 1
parts_few o = go (form o)
  where
    go : Form o → cond (special o) 1 0 + cond (not (printable o)) 1 0 ≤ 1
    go (alone p s e) = rw (p, s) (omega arith)
    go (behind p s e) = rw (p, s) (omega arith)
    go (digits p e) = rw (p, special_printable o p) (omega arith)

-- ---- folding

is_letter : ℕ → Bool
is_letter o = leb 65 o && leb o 90 || leb 97 o && leb o 122

-- no letter is special, so each is one character
letter_alone : (o : ℕ) → 65 ≤ o → o ≤ 122 → is_letter o ≡ true → characters_of o ≡ o ∷ []
unfolding is_letter
letter_alone o low high e = characters_plain o (rw (le-leb 33 o (omega arith), le-leb o 126 (omega arith))) (never_true (special o) no)
  where
    no : special o ≡ true → ⊥
    no s = true≢false (sym e ∙ special_cases (λ (n : ℕ). is_letter n ≡ false) refl refl refl refl refl refl refl refl o s)

upper_alone : (o : ℕ) → 65 ≤ o → o ≤ 90 → characters_of o ≡ o ∷ []
unfolding is_letter
upper_alone o low high = letter_alone o low (omega arith) (rw (le-leb 65 o low, le-leb o 90 high))

lower_alone : (o : ℕ) → 97 ≤ o → o ≤ 122 → characters_of o ≡ o ∷ []
unfolding is_letter
lower_alone o low high =
    letter_alone o (omega arith) high
    (rw (le-leb 65 o (omega arith), lt-leb o 90 (omega arith), le-leb 97 o low, le-leb o 122 high))

pub lower_width : (o : ℕ) → length (characters_of (lower_of o)) ≡ length (characters_of o)
lower_width o = go (lower_case o)
  where
    go : Case o → length (characters_of (lower_of o)) ≡ length (characters_of o)
    go (letter p q e) =
        rw e (ap length (lower_alone (o + 32) (omega arith) (omega arith)) ∙ sym (ap length (upper_alone o p q)))
    go (other f e) = ap (λ (x : ℕ). length (characters_of x)) e

-- how many characters an octet has, by the tests of it: whether it is printable, and whether it is special
module _ (o : ℕ) {b : Bool} (e : b ≡ printable o) where
  pub width_is_four : not b ≡ true → 4 ≡ length (characters_of (lower_of o))
  width_is_four f = sym (lower_width o ∙ ap length (characters_number o (sym e ∙ not-true b f)))

  module _ (f : not b ≡ false) {s : Bool} (g : s ≡ special o) where
    pub width_is_two : s ≡ true → 2 ≡ length (characters_of (lower_of o))
    width_is_two h = sym (lower_width o ∙ ap length (characters_special o (sym e ∙ not-false b f) (sym g ∙ h)))

    pub width_is_one : s ≡ false → 1 ≡ length (characters_of (lower_of o))
    width_is_one h = sym (lower_width o ∙ ap length (characters_plain o (sym e ∙ not-false b f) (sym g ∙ h)))

-- ---- spelling

or_first : (a b : Bool) → (a || b) ≡ false → a ≡ false
or_first a b e = (neither_true a b e).0

-- a character that is not special is no dot and no backslash
not_special_plain : (o : ℕ) → special o ≡ false → (eqb o dot || eqb o backslash) ≡ false
not_special_plain o e = or_first _ _ (or_first _ _ (or_first _ _ (or_first _ _ (or_first _ _ (or_first _ _ e)))))

digits_number : (o : ℕ) → o ≡ 100 * (o / 10 / 10) + 10 * (o / 10 % 10) + o % 10
digits_number o = omega (arith, div-add-mod o 10, div-add-mod (o / 10) 10)

digit_below : (n : ℕ) → n % 10 ≤ 9
digit_below n = let h : n % 10 < 10 = mod-lt n (omega arith) in omega arith

first_digit_below : (o : ℕ) → o < 256 → o / 10 / 10 ≤ 9
first_digit_below o h = omega (arith, digits_number o)

pub characters_spell : (o : ℕ) → o < 256 → Spells o (characters_of o)
characters_spell o small = go (form o)
  where
    go : Form o → Spells o (characters_of o)
    go (alone p s e) =
        itself (rw (p, not_special_plain o s) tt) e
    go (behind p s e) =
        escaped (rw p tt) (special_cases (λ (n : ℕ). T (not (digit n))) tt tt tt tt tt tt tt tt o s) e
    go (digits p e) =
        numbered (o / 10 / 10) (o / 10 % 10) (o % 10) (first_digit_below o small) (digit_below (o / 10)) (digit_below o)
        (digits_number o) (omega arith) e
