-- The word of four octets is their sum, each with its weight (`word_four`), and that of eight is made of two of four (`halves_word`) and
-- fits 64 bits (`halves_fit`).
use mathlib.Core.Path.{◌≡◌, ap, ◌∙◌}
use mathlib.Core.List.{List, [], ◌∷◌, ◌++◌}
use Prim.Native.Nat.{ℕ, zero, suc, ◌+◌, ◌-◌, ◌*◌, ◌%◌, ◌^◌, ◌≤◌, ◌<◌}
use native.Mathlib.Nat.{pow-suc, mul_assoc, mul_comm}
use native.Mathlib.Omega.{arith}
use borrow.Author.Tests.{le-leb}
use lib.Arith.{digits_mod}
use lib.ListN.{length, take, drop, get_or}
use lib.Seq.{take-add, take-suc, length-take-le, take-take, get_or-drop}
use Rattle.words.specs.Private.Word.{word_of, word_at}

word_append : (s t : List ℕ) → word_of (s ++ t) ≡ word_of t * 256 ^ length s + word_of s
unfolding word_of
word_append [] t = omega arith
word_append (o ∷ s) t =
    omega (arith, word_append s t, ap (λ (x : ℕ). word_of t * x) (pow-suc 256 (length s)), mul_assoc (word_of t) (256 ^ length s) 256)

word_halves : (s : List ℕ) → 4 ≤ length s → word_of (take 8 s) ≡ word_of (take 4 s) + 4294967296 * word_of (take 4 (drop 4 s))
word_halves s h =
    let e : length (take 4 s) ≡ 4 = length-take-le 4 s h in
    rw (take-add 4 4 s, word_append (take 4 s) (take 4 (drop 4 s)), e) (omega arith)

word_more : (s : List ℕ) (n : ℕ) → n < length s → word_of (take (suc n) s) ≡ word_of (take n s) + 256 ^ n * get_or s n 0
unfolding word_of
word_more s n h =
    let e : length (take n s) ≡ n = length-take-le n s (omega arith) in
    rw (take-suc s n 0 h, word_append (take n s) (get_or s n 0 ∷ []), e) (omega (arith, mul_comm (256 ^ n) (get_or s n 0)))

pub word_four : (s : List ℕ) → 4 ≤ length s
    → word_of (take 4 s) ≡ get_or s 0 0 + 256 * get_or s 1 0 + 65536 * get_or s 2 0 + 16777216 * get_or s 3 0
unfolding word_of
word_four s h =
    omega (arith, word_more s 0 (omega arith), word_more s 1 (omega arith), word_more s 2 (omega arith), word_more s 3 (omega arith))

word_lt : (n : ℕ) (s : List ℕ) → ((i : ℕ) → get_or s i 0 < 256) → word_of (take n s) < 256 ^ n
unfolding word_of
word_lt zero s h = omega arith
word_lt (suc n) [] h = omega (arith, pow-suc 256 n, word_lt n [] h)
word_lt (suc n) (o ∷ s) h = omega (arith, pow-suc 256 n, h 0, word_lt n s (λ i. h (suc i)))

-- the first octet is the lowest digit
pub word_first : (s : List ℕ) → 8 ≤ length s → ((i : ℕ) → get_or s i 0 < 256) → word_at s % 256 ≡ get_or s 0 0
unfolding word_of
word_first [] h octets = absurd (omega arith)
word_first (o ∷ s) h octets = rw (le-leb 8 (length (o ∷ s)) h) (digits_mod (word_of (take 7 s)) (octets 0))

-- ---- eight octets, of which a and b are the words of the first four and the next, as `word` takes them from slices

module _ (s : List ℕ) (a b : ℕ) (h : 8 ≤ length s) (first : a ≡ word_of (take 4 (take (length s - 0) s)))
    (next : b ≡ word_of (take 4 (take (length s - 4) (drop 4 s)))) where
  front : a ≡ word_of (take 4 s)
  front = first ∙ ap word_of (take-take 4 (length s - 0) s (omega arith))

  back : b ≡ word_of (take 4 (drop 4 s))
  back = next ∙ ap word_of (take-take 4 (length s - 4) (drop 4 s) (omega arith))

  pub halves_word : a + 4294967296 * b ≡ word_at s
  halves_word = rw (le-leb 8 (length s) h) (omega (arith, front, back, word_halves s (omega arith)))

  pub halves_fit : ((i : ℕ) → get_or s i 0 < 256) → a + 4294967296 * b < 2 ^ 64
  halves_fit octets =
      omega (arith, front, back, word_lt 4 s octets, word_lt 4 (drop 4 s) (λ i. rw (get_or-drop 4 s i 0) (octets (4 + i))))
