-- The marks of a word whose octets are all below 128: no sum and no difference that makes them reaches the next octet, and in each octet
-- they are right (`marks_found`), which is found by trying all of these octets.
use mathlib.Core.Path.{◌≡◌, refl, sym, ap, ap₂, ◌∙◌}
use Prim.Native.Nat.{ℕ, ◌+◌, ◌-◌, ◌/◌, ◌%◌, ◌^◌, ◌≤◌, ◌<◌}
use native.Mathlib.Nat.{mod-lt, mod-eq_of_lt}
use native.Mathlib.Omega.{arith}
use borrow.Author.Tests.{eqb-true}
use lib.Bits.{bit_and, bit_or, bit_xor, and_block, or_block, xor_block, or_lt, xor_lt, and_high}
use lib.Dec.{eqb}
use Rattle.facts.proofs.Trying.{every_one}
use Rattle.words.specs.Private.Word.{each_digit}
use Rattle.words.specs.Private.Stops.{stop_mark}
use Rattle.words.proofs.Digits.{each_kept, each_same, each_add, each_le, each_sub, each_op}

-- ---- one octet

abbrev marked : ℕ → ℕ
marked o = bit_and (bit_or (bit_or (bit_or (128 - bit_xor o 46) (128 - bit_xor o 92)) (160 - o)) (o + 1)) 128

marked_right : (o : ℕ) → o < 128 → marked o ≡ stop_mark o
marked_right o h = eqb-true (marked o) (stop_mark o) (every_one (λ o. eqb (marked o) (stop_mark o)) 128 refl o h)

low_lt : (o : ℕ) → o % 128 < 128
low_lt o = mod-lt o (omega arith)

low_same : (o : ℕ) → o < 256 → bit_and o 128 ≡ 0 → o ≡ o % 128
low_same o h e =
    let q : o / 128 < 2 = omega arith in
    let l : o < 128 = omega (arith, and_high o 1 7, mod-eq_of_lt q) in
    sym (mod-eq_of_lt l)

-- ---- eight octets

-- x is w with f done to each of its octets, of which none grows to 256
record Made (w x : ℕ) (f : ℕ → ℕ) : Type 0 where
  same : x ≡ each_digit f 8 w
  small : (o : ℕ) → f o < 256

or_made : {w x y : ℕ} {f g : ℕ → ℕ} → Made w x f → Made w y g → Made w (bit_or x y) (λ o. bit_or (f o) (g o))
or_made {w} {x} {y} {f} {g} p q =
    record {
      same = ap₂ bit_or p.same q.same ∙ each_op bit_or refl or_block f g (λ o l. p.small o) (λ o l. q.small o) 8 w;
      small = λ o. or_lt 8 (f o) (g o) (p.small o) (q.small o);
    }

module _ (w : ℕ) (h : w < 2 ^ 64) (e : bit_and w 0x8080808080808080 ≡ 0) where
  literals : (each_digit (λ o. 128) 8 w ≡ 0x8080808080808080) × (each_digit (λ o. 160) 8 w ≡ 0xa0a0a0a0a0a0a0a0)
      × (each_digit (λ o. 1) 8 w ≡ 0x0101010101010101)
  unfolding each_digit
  literals = (refl, refl, refl)

  none_high : each_digit (λ o. bit_and o 128) 8 w ≡ 0
  none_high =
      sym (each_op bit_and refl and_block (λ o. o) (λ o. 128) (λ o l. l) (λ o l. omega arith) 8 w)
      ∙ rw (each_kept 8 w h, literals.0) e

  -- so each octet is the rest of its division by 128, of which facts hold without a condition
  word_low : w ≡ each_digit (λ o. o % 128) 8 w
  word_low = sym (each_kept 8 w h) ∙ each_same (λ o. o) (λ o. o % 128) (λ o. bit_and o 128) low_same 8 w none_high

  module _ (c : ℕ) (small : c < 128) where
    xor_lower : (o : ℕ) → bit_xor (o % 128) c ≤ 128
    xor_lower o = omega (arith, xor_lt 7 (o % 128) c (low_lt o) small)

    xor_each : bit_xor w (each_digit (λ o. c) 8 w) ≡ each_digit (λ o. bit_xor (o % 128) c) 8 w
    xor_each =
        ap (λ (x : ℕ). bit_xor x (each_digit (λ o. c) 8 w)) word_low
        ∙ each_op bit_xor refl xor_block (λ o. o % 128) (λ o. c) (λ o l. omega (arith, low_lt o)) (λ o l. omega arith) 8 w

    pub xor_fits : bit_xor w (each_digit (λ o. c) 8 w) ≤ 0x8080808080808080
    xor_fits = rw (xor_each, ← literals.0) (each_le (λ o. 128) (λ o. bit_xor (o % 128) c) xor_lower 8 w)

    unlike_made : Made w (0x8080808080808080 - bit_xor w (each_digit (λ o. c) 8 w)) (λ o. 128 - bit_xor (o % 128) c)
    unlike_made =
        record {
          same = rw (xor_each, ← literals.0) (each_sub (λ o. 128) (λ o. bit_xor (o % 128) c) xor_lower 8 w);
          small = λ o. omega arith;
        }

  lower : (o : ℕ) → o % 128 ≤ 160
  lower o = omega (arith, low_lt o)

  pub below_fits : w ≤ 0xa0a0a0a0a0a0a0a0
  below_fits = omega (arith, word_low, literals.1, each_le (λ o. 160) (λ o. o % 128) lower 8 w)

  below_made : Made w (0xa0a0a0a0a0a0a0a0 - w) (λ o. 160 - o % 128)
  below_made =
      record {
        same = omega (arith, word_low, literals.1, each_sub (λ o. 160) (λ o. o % 128) lower 8 w);
        small = λ o. omega arith;
      }

  above_made : Made w (w + 0x0101010101010101) (λ o. o % 128 + 1)
  above_made =
      record {
        same = omega (arith, word_low, literals.2, each_add (λ o. o % 128) (λ o. 1) 8 w);
        small = λ o. omega (arith, low_lt o);
      }

  pub marks_found :
      bit_and
      (bit_or
      (bit_or
      (bit_or (0x8080808080808080 - bit_xor w (each_digit (λ o. 46) 8 w)) (0x8080808080808080 - bit_xor w (each_digit (λ o. 92) 8 w)))
      (0xa0a0a0a0a0a0a0a0 - w))
      (w + 0x0101010101010101))
      0x8080808080808080
      ≡ each_digit stop_mark 8 w
  marks_found =
      let made = or_made (or_made (or_made (unlike_made 46 (omega arith)) (unlike_made 92 (omega arith))) below_made) above_made in
      ap₂ bit_and made.same (sym literals.0)
      ∙ each_op bit_and refl and_block _ (λ o. 128) (λ o l. made.small o) (λ o l. omega arith) 8 w
      ∙ each_same (λ o. marked (o % 128)) stop_mark (λ o. bit_and o 128)
      (λ o l z. marked_right (o % 128) (low_lt o) ∙ ap stop_mark (sym (low_same o l z))) 8 w none_high
