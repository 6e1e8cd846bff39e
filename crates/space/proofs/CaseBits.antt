-- Octets are the same, folded, where they are the same with the bit set that tells the two cases of a letter apart, if the first of them is
-- a letter (`same_with_bit`). What that bit does to one octet is found by trying them all.
use mathlib.Core.Path.{◌≡◌, refl, sym, ap, ◌∙◌}
use mathlib.Core.Bool.{Bool, true, false, cond, true≢false, false≢true}
use Prim.Native.Nat.{ℕ, ◌≤◌, ◌<◌}
use borrow.Author.Tests.{eqb-true, eq-eqb, le-leb, lt-leb}
use lib.Bits.{bit_or, or_zero_r}
use lib.Dec.{eqb}
use Rattle.facts.proofs.Trying.{every_one}
use Rattle.space.specs.Fold.{lower_of}
use Rattle.space.specs.Private.SameParts.{small_letter, case_bit}
use Rattle.space.proofs.SameBlocks.{alike}

-- ---- one octet

-- with the bit set it is a small letter where it is one folded, and then it is the same; if it is none folded, it does not change
abbrev is_letter : ℕ → Bool
is_letter o = eqb (cond (small_letter (bit_or o 32)) 1 0) (cond (small_letter (lower_of o)) 1 0)

abbrev is_folded : ℕ → Bool
is_folded o = eqb (cond (small_letter (lower_of o)) (bit_or o 32) (lower_of o)) (lower_of o)

abbrev is_kept : ℕ → Bool
is_kept o = eqb (cond (small_letter (lower_of o)) o (lower_of o)) o

one_zero : (a b : Bool) → eqb (cond a 1 0) (cond b 1 0) ≡ true → a ≡ b
one_zero true true e = refl
one_zero true false e = absurd (false≢true e)
one_zero false true e = absurd (false≢true e)
one_zero false false e = refl

module _ (o : ℕ) (h : o < 256) where
  letter_with_bit : small_letter (bit_or o 32) ≡ small_letter (lower_of o)
  letter_with_bit = one_zero (small_letter (bit_or o 32)) (small_letter (lower_of o)) (every_one is_letter 256 refl o h)

  folded_with_bit : small_letter (lower_of o) ≡ true → bit_or o 32 ≡ lower_of o
  folded_with_bit e =
      rw e at (eqb-true (cond (small_letter (lower_of o)) (bit_or o 32) (lower_of o)) (lower_of o) (every_one is_folded 256 refl o h))

  unchanged : small_letter (lower_of o) ≡ false → lower_of o ≡ o
  unchanged e = rw e at (eqb-true (cond (small_letter (lower_of o)) o (lower_of o)) o (every_one is_kept 256 refl o h))

-- what tells whether it is a letter
pub bit_letter : (o : ℕ) → o < 256 → 97 ≤ bit_or o 32 → bit_or o 32 ≤ 122 → 32 ≡ case_bit o
bit_letter o h low high = rw (← letter_with_bit o h, le-leb 97 (bit_or o 32) low, le-leb (bit_or o 32) 122 high)

pub bit_above : (o : ℕ) → o < 256 → 97 ≤ bit_or o 32 → 122 < bit_or o 32 → 0 ≡ case_bit o
bit_above o h low high = rw (← letter_with_bit o h, le-leb 97 (bit_or o 32) low, lt-leb (bit_or o 32) 122 high)

pub bit_below : (o : ℕ) → o < 256 → bit_or o 32 < 97 → 0 ≡ case_bit o
bit_below o h low = rw (← letter_with_bit o h, lt-leb 97 (bit_or o 32) low)

-- ---- two octets

-- one is a small letter and the other is not
letters_differ : (x y : ℕ) → small_letter x ≡ true → small_letter y ≡ false → eqb x y ≡ true → ⊥
letters_differ x y p q e = true≢false (sym p ∙ ap small_letter (eqb-true x y e) ∙ q)

module _ (a b : ℕ) (h : a < 256) (g : b < 256) where
  letter : small_letter (lower_of a) ≡ true → (q : Bool) → small_letter (lower_of b) ≡ q
      → eqb (bit_or a 32) (bit_or b 32) ≡ eqb (lower_of a) (lower_of b)
  letter p true e = rw (folded_with_bit a h p, folded_with_bit b g e)
  letter p false e =
      rw (folded_with_bit a h p)
      (alike (eqb (lower_of a) (bit_or b 32)) (eqb (lower_of a) (lower_of b))
      (λ t. absurd (letters_differ (lower_of a) (bit_or b 32) p (letter_with_bit b g ∙ e) t))
      (λ t. absurd (letters_differ (lower_of a) (lower_of b) p e t)))

  back : small_letter (lower_of a) ≡ false → lower_of a ≡ lower_of b → a ≡ b
  back p e = sym (unchanged a h p) ∙ e ∙ unchanged b g (ap small_letter (sym e) ∙ p)

  pub same_with_bit : (p : Bool) → small_letter (lower_of a) ≡ p
      → eqb (bit_or a (cond p 32 0)) (bit_or b (cond p 32 0)) ≡ eqb (lower_of a) (lower_of b)
  same_with_bit true p = letter p (small_letter (lower_of b)) refl
  same_with_bit false p =
      rw (or_zero_r a, or_zero_r b)
      (alike (eqb a b) (eqb (lower_of a) (lower_of b))
      (λ t. eq-eqb (lower_of a) (lower_of b) (ap lower_of (eqb-true a b t)))
      (λ t. eq-eqb a b (back p (eqb-true (lower_of a) (lower_of b) t))))
