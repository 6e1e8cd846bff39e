-- Words of which each digit is changed: sums and differences of two of them are taken digit by digit (`each_add`, `each_sub`), and so are
-- the bit operations where no digit grows to 256 (`each_op`).
use mathlib.Core.Path.{◌≡◌, refl, ap₂, ◌∙◌}
use Prim.Native.Nat.{ℕ, zero, suc, ◌+◌, ◌-◌, ◌*◌, ◌/◌, ◌%◌, ◌^◌, ◌≤◌, ◌<◌}
use native.Mathlib.Nat.{pow-suc, mod-lt, div-add-mod'}
use native.Mathlib.Omega.{arith}
use Rattle.words.specs.Private.Word.{each_digit}

-- ---- one word

digit_lt : (w : ℕ) → w % 256 < 256
digit_lt w = mod-lt w (omega arith)

pub each_kept : (n w : ℕ) → w < 256 ^ n → each_digit (λ o. o) n w ≡ w
unfolding each_digit
each_kept zero w h = omega arith
each_kept (suc n) w h = rw (each_kept n (w / 256) (omega (arith, pow-suc 256 n))) (div-add-mod' w 256)

-- two changes give the same word if they agree on each digit that a third one makes 0, and that one makes all of this word's 0
pub each_same : (f g h : ℕ → ℕ) → ((o : ℕ) → o < 256 → h o ≡ 0 → f o ≡ g o)
    → (n w : ℕ) → each_digit h n w ≡ 0 → each_digit f n w ≡ each_digit g n w
unfolding each_digit
each_same f g h same zero w e = refl
each_same f g h same (suc n) w e =
    ap₂ (λ (x y : ℕ). x * 256 + y) (each_same f g h same n (w / 256) (omega arith)) (same (w % 256) (digit_lt w) (omega arith))

-- ---- two words

module _ (f g : ℕ → ℕ) where
  pub each_add : (n w : ℕ) → each_digit f n w + each_digit g n w ≡ each_digit (λ o. f o + g o) n w
  unfolding each_digit
  each_add zero w = refl
  each_add (suc n) w = omega (arith, each_add n (w / 256))

  module _ (le : (o : ℕ) → g o ≤ f o) where
    pub each_le : (n w : ℕ) → each_digit g n w ≤ each_digit f n w
    unfolding each_digit
    each_le zero w = omega arith
    each_le (suc n) w = omega (arith, le (w % 256), each_le n (w / 256))

    pub each_sub : (n w : ℕ) → each_digit f n w - each_digit g n w ≡ each_digit (λ o. f o - g o) n w
    unfolding each_digit
    each_sub zero w = refl
    each_sub (suc n) w = omega (arith, le (w % 256), each_le n (w / 256), each_sub n (w / 256))

-- the bit operations share this law: each works on the lowest bits and on the rest apart
module _ (op : ℕ → ℕ → ℕ) (nothing : op 0 0 ≡ 0)
    (block : (k a b r s : ℕ) → r < 2 ^ k → s < 2 ^ k → op (a * 2 ^ k + r) (b * 2 ^ k + s) ≡ op a b * 2 ^ k + op r s)
    (f g : ℕ → ℕ) (f_lt : (o : ℕ) → o < 256 → f o < 256) (g-lt : (o : ℕ) → o < 256 → g o < 256) where
  pub each_op : (n w : ℕ) → op (each_digit f n w) (each_digit g n w) ≡ each_digit (λ o. op (f o) (g o)) n w
  unfolding each_digit
  each_op zero w = nothing
  each_op (suc n) w =
      block 8 (each_digit f n (w / 256)) (each_digit g n (w / 256)) (f (w % 256)) (g (w % 256))
      (f_lt (w % 256) (digit_lt w)) (g-lt (w % 256) (digit_lt w))
      ∙ rw (each_op n (w / 256))
