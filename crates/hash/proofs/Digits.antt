-- A number and its digits: digits below the base are those of their number (`digits_value`), a number below base ^ n is that of its n
-- digits (`value_digits`), digits written one after another are a number's high and low part (`digits_append`), and digits of one length
-- sort as their numbers do (`value_order`, `order_value`).
use Rattle.std.proofs.Common.{◌≡◌, ℕ, zero, suc, ◌+◌, ◌*◌, ◌/◌, ◌%◌, ◌^◌, ◌<◌, true, ltb, ◌⊎◌, List, [], ◌∷◌, ◌++◌, length, get_or, take}
use Rattle.std.proofs.Common.{drop, sym, refl, ap, ◌∙◌, inl, inr, append_assoc, append-nil, lt_of_lt_of_le, le-add_right, add-zero, add-suc}
use Rattle.std.proofs.Common.{mod-lt, mod-eq_of_lt, zero-lt-suc, mul_assoc, div-lt_iff_lt-mul, one-mul, pow-suc, mul-zero, div-add-mod'}
use Rattle.std.proofs.Common.{mul-one, arith, length-append, pow-add, ltb-true, lt-ltb}
use native.Mathlib.Nat.{pow-zero}
use native.Mathlib.Nat.{mul-add-div_right, mul-add-mod_self_right, pow-succ'}
use lib.Arith.{digits_lt}
use Rattle.facts.proofs.Booleans.{both_true}
use Rattle.order.specs.Order.{◌⊏◌}
use Rattle.order.proofs.Lexicographic.{lex_total}
use Rattle.hash.specs.Digits.{value, digits, are_digits}
use Rattle.hash.specs.Private.Below.{Below}

pub below_append : (base : ℕ) (s t : List ℕ) → Below base s → Below base t → Below base (s ++ t)
below_append base [] t h k = k
below_append base (d ∷ s) t h k = (h.0, below_append base s t h.1 k)

pub below_drop : (base n : ℕ) (s : List ℕ) → Below base s → Below base (drop n s)
below_drop base zero s h = h
below_drop base (suc n) [] h = tt
below_drop base (suc n) (d ∷ s) h = below_drop base n s h.1

pub below_at : (base : ℕ) (s : List ℕ) (n : ℕ) → Below base s → 0 < base → get_or s n 0 < base
below_at base [] n h pos = pos
below_at base (d ∷ s) zero h pos = h.0
below_at base (d ∷ s) (suc n) h pos = below_at base s n h.1 pos

pub below_take : (base n : ℕ) (s : List ℕ) → Below base s → Below base (take n s)
below_take base zero s h = tt
below_take base (suc n) [] h = tt
below_take base (suc n) (d ∷ s) h = (h.0, below_take base n s h.1)

pub below_tested : (base : ℕ) (s : List ℕ) → are_digits base s ≡ true → Below base s
unfolding are_digits
below_tested base [] e = tt
below_tested base (d ∷ s) e = let k = both_true (ltb d base) (are_digits base s) e in (ltb-true d base k.0, below_tested base s k.1)

pub tested_below : (base : ℕ) (s : List ℕ) → Below base s → are_digits base s ≡ true
unfolding are_digits
tested_below base [] h = refl
tested_below base (d ∷ s) h = rw (lt-ltb d base h.0, tested_below base s h.1)

-- ---- the value

pub value_append : (base : ℕ) (s t : List ℕ) → value base (s ++ t) ≡ value base s * base ^ length t + value base t
unfolding value
value_append base [] t = omega arith
value_append base (d ∷ s) t =
    let e : base ^ length (s ++ t) ≡ base ^ length s * base ^ length t = rw length-append (pow-add base (length s) (length t)) in
    rw (e, value_append base s t) (omega arith)

pub value_one : (base d : ℕ) → value base (d ∷ []) ≡ d
unfolding value
value_one base d = rw pow-zero (omega arith)

pub value_more : (base : ℕ) (s : List ℕ) (d : ℕ) → value base (s ++ d ∷ []) ≡ value base s * base + d
value_more base s d =
    let e : base ^ 1 ≡ base = pow-suc base 0 ∙ rw (pow-zero, one-mul) in
    value_append base s (d ∷ []) ∙ rw (value_one, e)

pub value_below : (base : ℕ) (s : List ℕ) → Below base s → value base s < base ^ length s
unfolding value
value_below base [] h = rw pow-zero (omega arith)
value_below base (d ∷ s) h = rw pow-succ' (digits_lt h.0 (value_below base s h.1))

-- ---- the digits

pub digits_length : (base n v : ℕ) → length (digits base n v) ≡ n
unfolding digits
digits_length base zero v = refl
digits_length base (suc n) v = rw (length-append, digits_length base n (v / base)) (omega arith)

pub digits_below : (base n v : ℕ) → 0 < base → Below base (digits base n v)
unfolding digits
digits_below base zero v h = tt
digits_below base (suc n) v h = below_append base (digits base n (v / base)) _ (digits_below base n (v / base) h) (mod-lt v h, tt)

-- a high part and a low part of m digits
pub digits_append : (base n m u w : ℕ) → w < base ^ m → digits base (n + m) (u * base ^ m + w) ≡ digits base n u ++ digits base m w
unfolding digits
digits_append base n zero u w h =
    let z : w ≡ 0 = omega (arith, rw pow-zero at h) in
    rw (z, pow-zero, mul-one, add-zero, add-zero, append-nil)
digits_append base n (suc m) u w h =
    let low : w < base ^ m * base = rw pow-suc at h in
    let pos : 0 < base = positive base low in
    let e : u * base ^ suc m + w ≡ u * base ^ m * base + w = rw (pow-suc, mul_assoc) in
    rw (
      add-suc,
      e,
      mul-add-div_right pos (u * base ^ m) w,
      mul-add-mod_self_right (u * base ^ m) base w,
      digits_append base n m u (w / base) ((div-lt_iff_lt-mul pos).1 low),
      append_assoc,
    )
  where
    positive : (b : ℕ) → w < base ^ m * b → 0 < b
    positive zero k = absurd (omega (arith, rw mul-zero at k))
    positive (suc b) k = omega arith

-- digits below the base are those of their number
pub digits_value : (base : ℕ) (s : List ℕ) → Below base s → digits base (length s) (value base s) ≡ s
unfolding value digits
digits_value base [] h = refl
digits_value base (d ∷ s) h =
    let e : length (d ∷ s) ≡ 1 + length s = omega arith in
    ap (λ (n : ℕ). digits base n (value base (d ∷ s))) e ∙ digits_append base 1 (length s) d (value base s) (value_below base s h.1)
    ∙ rw (mod-eq_of_lt h.0, digits_value base s h.1)

-- and a number that has room in n digits is that of its digits
pub value_digits : (base n v : ℕ) → v < base ^ n → value base (digits base n v) ≡ v
unfolding value digits
value_digits base zero v h = omega (arith, rw pow-zero at h)
value_digits base (suc n) v h =
    rw (value_more base (digits base n (v / base)) (v % base), value_digits base n (v / base) (rest base (rw pow-suc at h)))
    (div-add-mod' v base)
  where
    rest : (b : ℕ) → v < base ^ n * b → v / b < base ^ n
    rest zero k = absurd (omega (arith, rw mul-zero at k))
    rest (suc b) k = (div-lt_iff_lt-mul (zero-lt-suc b)).1 k

pub value_injective : (base : ℕ) (s t : List ℕ) → length s ≡ length t → Below base s → Below base t → value base s ≡ value base t → s ≡ t
value_injective base s t l hs ht e = sym (digits_value base s hs) ∙ cc (digits_value base t ht)

-- ---- the order

pub value_order : (base : ℕ) (s t : List ℕ) → length s ≡ length t → Below base s → Below base t → s ⊏ t → value base s < value base t
unfolding value
value_order base [] [] l hs ht h = absurd h
value_order base [] (y ∷ t) l hs ht h = absurd (omega arith)
value_order base (x ∷ s) [] l hs ht h = absurd h
value_order base (x ∷ s) (y ∷ t) l hs ht (inl h) =
    let e : length s ≡ length t = omega arith in
    rw (← e) (lt_of_lt_of_le (digits_lt h (value_below base s hs.1)) (le-add_right _ _))
value_order base (x ∷ s) (y ∷ t) l hs ht (inr h) =
    let e : length s ≡ length t = omega arith in
    rw (← e, h.0) (omega (arith, value_order base s t e hs.1 ht.1 h.1))

pub order_value : (base : ℕ) (s t : List ℕ) → length s ≡ length t → Below base s → Below base t → value base s < value base t → s ⊏ t
order_value base s t l hs ht h = go (lex_total s t)
  where
    go : (s ⊏ t) ⊎ ((s ≡ t) ⊎ (t ⊏ s)) → s ⊏ t
    go (inl k) = k
    go (inr (inl k)) = absurd (omega (arith, ap (value base) k))
    go (inr (inr k)) = absurd (omega (arith, value_order base t s (sym l) ht hs k))
