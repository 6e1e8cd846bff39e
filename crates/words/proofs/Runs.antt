-- The octets before the first mark of a word stand for themselves: a word's trailing zeros, by eights, count octets that have no mark
-- (`stops_run`).
use mathlib.Core.Path.{◌≡◌, refl}
use mathlib.Core.List.{List, [], ◌∷◌}
use mathlib.Core.Bool.{Bool, true, false, cond}
use Prim.Native.Nat.{ℕ, zero, suc, ◌+◌, ◌-◌, ◌*◌, ◌/◌, ◌%◌, ◌^◌, ◌≤◌, ◌<◌}
use native.Mathlib.Nat.{pow-suc}
use native.Mathlib.Omega.{arith}
use borrow.Author.Tests.{le-leb}
use lib.Arith.{digits_div, digits_mod}
use lib.Bits.{bit_and, block_half, block_odd}
use lib.Count.{count_trailing_zeros, trailing_le, under}
use lib.Dec.{eqb}
use lib.ListN.{length, take, get_or}
use Rattle.text.specs.Characters.{plain}
use Rattle.words.specs.Private.Word.{word_of, word_at, each_digit}
use Rattle.words.specs.Private.Stops.{stop_mark, stop_marks}

-- ---- trailing zeros

-- of at least r trailing zeros, r are the lowest r bits, and the others are the trailing zeros of the bits above
zeros_behind : (r t a b : ℕ) → b < 2 ^ r → r ≤ count_trailing_zeros t (a * 2 ^ r + b)
    → (b ≡ 0) × (count_trailing_zeros t (a * 2 ^ r + b) ≡ r + count_trailing_zeros (t - r) a)
unfolding count_trailing_zeros
zeros_behind zero t a b h l =
    let e : a * 1 + b ≡ a = omega arith in
    let d : t - 0 ≡ t = omega arith in
    (omega arith, rw (e, d) (omega arith))
zeros_behind (suc r) zero a b h l = absurd (omega arith)
zeros_behind (suc r) (suc t) a b h l =
    let d : suc t - suc r ≡ t - r = omega arith in
    rw (block_odd a r b, block_half a r b, d)
    (go (b % 2) refl (rw (block_odd a r b, block_half a r b) at l) (zeros_behind r t a (b / 2) (omega (arith, pow-suc 2 r))))
  where
    go : (d : ℕ) → b % 2 ≡ d → suc r ≤ under d (count_trailing_zeros t (a * 2 ^ r + b / 2))
        → (r ≤ count_trailing_zeros t (a * 2 ^ r + b / 2)
        → (b / 2 ≡ 0) × (count_trailing_zeros t (a * 2 ^ r + b / 2) ≡ r + count_trailing_zeros (t - r) a))
        → (b ≡ 0) × (under d (count_trailing_zeros t (a * 2 ^ r + b / 2)) ≡ suc r + count_trailing_zeros (t - r) a)
    go zero e k ih = let z = ih (omega arith) in (omega (arith, z.0), omega (arith, z.1))
    go (suc d) e k ih = absurd (omega arith)

pub zeros_lt : (t n : ℕ) → 0 < n → n < 2 ^ t → count_trailing_zeros t n < t
unfolding count_trailing_zeros
zeros_lt zero n some h = absurd (omega arith)
zeros_lt (suc t) n some h = go (n % 2) refl (λ k. zeros_lt t (n / 2) k (omega (arith, pow-suc 2 t)))
  where
    go : (d : ℕ) → n % 2 ≡ d → (0 < n / 2 → count_trailing_zeros t (n / 2) < t) → under d (count_trailing_zeros t (n / 2)) < suc t
    go zero e less = omega (arith, less (omega arith))
    go (suc d) e less = omega arith

-- ---- digits

module _ (f : ℕ → ℕ) (f_lt : (o : ℕ) → o < 256 → f o < 256) where
  -- each digit that stands wholly below the lowest set bit is 0
  zeros_digit : (n : ℕ) (s : List ℕ) → n ≤ length s → ((i : ℕ) → get_or s i 0 < 256)
      → (k : ℕ) → 8 * suc k ≤ count_trailing_zeros (8 * n) (each_digit f n (word_of (take n s))) → f (get_or s k 0) ≡ 0
  unfolding word_of each_digit
  zeros_digit zero s h octets k l = absurd (omega (arith, trailing_le 0 0))
  zeros_digit (suc n) [] h octets k l = absurd (omega arith)
  zeros_digit (suc n) (o ∷ s) h octets k l =
      go k (rw (digits_div (word_of (take n s)) (octets 0), digits_mod (word_of (take n s)) (octets 0)) at l)
      (zeros_digit n s (omega arith) (λ i. octets (suc i)))
    where
      rest : ℕ
      rest = each_digit f n (word_of (take n s))

      first : 8 ≤ count_trailing_zeros (8 * suc n) (rest * 256 + f o)
          → (f o ≡ 0) × (count_trailing_zeros (8 * suc n) (rest * 256 + f o) ≡ 8 + count_trailing_zeros (8 * n) rest)
      first m =
          let d : 8 * suc n - 8 ≡ 8 * n = omega arith in
          rw d at (zeros_behind 8 (8 * suc n) rest (f o) (f_lt o (octets 0)) m)

      go : (k : ℕ) → 8 * suc k ≤ count_trailing_zeros (8 * suc n) (rest * 256 + f o)
          → ((k : ℕ) → 8 * suc k ≤ count_trailing_zeros (8 * n) rest → f (get_or s k 0) ≡ 0) → f (get_or (o ∷ s) k 0) ≡ 0
      go zero m ih = (first m).0
      go (suc k) m ih = ih k (omega (arith, (first (omega arith)).1))

-- ---- marks

mark_plain : (o : ℕ) → stop_mark o ≡ 0 → plain o ≡ true
mark_plain o e = go (plain o) e
  where
    go : (b : Bool) → ◌≡◌ {A = ℕ} (cond b 0 128) 0 → b ≡ true
    go true e = refl
    go false e = absurd (omega arith)

mark_lt : (o : ℕ) → stop_mark o < 256
mark_lt o = go (plain o)
  where
    go : (b : Bool) → cond b 0 128 < 256
    go true = omega arith
    go false = omega arith

-- with an octet that is 128 or more, the first has the mark, and the run is empty
zeros_first : count_trailing_zeros 64 128 / 8 ≡ 0
unfolding count_trailing_zeros
zeros_first = refl

pub stops_run : (s : List ℕ) → 8 ≤ length s → ((i : ℕ) → get_or s i 0 < 256) → (k : ℕ)
    → k < count_trailing_zeros 64 (stop_marks (word_at s)) / 8 → plain (get_or s k 0) ≡ true
stops_run s h octets k l = go (eqb (bit_and (word_of (take 8 s)) 0x8080808080808080) 0) (rw (le-leb 8 (length s) h) at l)
  where
    go : (b : Bool) → k < count_trailing_zeros 64 (cond b (each_digit stop_mark 8 (word_of (take 8 s))) 128) / 8
        → plain (get_or s k 0) ≡ true
    go true m = mark_plain (get_or s k 0) (zeros_digit stop_mark (λ o h. mark_lt o) 8 s h octets k (omega arith))
    go false m = absurd (omega (arith, zeros_first))
