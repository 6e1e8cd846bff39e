-- Whether a type is in a set: what is in a rising list lies between its ends (`has_within`), and a type is among those of octets exactly
-- where its bit is set (`octets_has`).
use mathlib.Core.Path.{◌≡◌, refl, sym, ap, ◌∙◌}
use mathlib.Core.Logic.{◌⊎◌, inl, inr}
use mathlib.Core.List.{List, [], ◌∷◌, ◌++◌}
use mathlib.Core.Bool.{Bool, true, false, ◌||◌, false≢true}
use Prim.Native.Nat.{ℕ, zero, suc, ◌+◌, ◌-◌, ◌*◌, ◌/◌, ◌%◌, ◌^◌, ◌≤◌, ◌<◌}
use native.Mathlib.Nat.{pow-suc, div-eq_of_lt, div-eq_of_lt-le, div-one}
use native.Mathlib.Decide.{dec_lt}
use native.Mathlib.Omega.{arith}
use borrow.Author.Tests.{eqb-true, eq-eqb, ne_eqb}
use lib.Bits.{block_half, block_odd}
use lib.Dec.{eqb}
use lib.ListN.{length, get_or}
use lib.Pow.{shr-shr}
use Rattle.facts.proofs.Booleans.{either_true, never_true}
use Rattle.types.specs.Sets.{RisesIn, none, rises, has}
use Rattle.types.specs.Window.{bit_types, octet_types}
use Rattle.types.proofs.Bits.{bit_set, bit_clear, bits_rise}
use Rattle.types.proofs.Octets.{types_rise}

pub has_append : (t : ℕ) (xs ys : List ℕ) → has t (xs ++ ys) ≡ has t xs || has t ys
unfolding has
has_append t [] ys = refl
has_append t (x ∷ xs) ys = go (eqb t x) (has_append t xs ys)
  where
    go : (b : Bool) → has t (xs ++ ys) ≡ has t xs || has t ys → b || has t (xs ++ ys) ≡ (b || has t xs) || has t ys
    go true ih = refl
    go false ih = ih

has_first : (t u : ℕ) (ts : List ℕ) → t ≡ u → has t (u ∷ ts) ≡ true
unfolding has
has_first t u ts e = rw (eq-eqb t u e)

has_other : (t u : ℕ) (ts : List ℕ) → (t ≡ u → ⊥) → has t (u ∷ ts) ≡ has t ts
unfolding has
has_other t u ts h = rw (ne_eqb t u h)

-- where it stands in the list
pub has_among : (t : ℕ) (ts : List ℕ) → has t ts ≡ true → (i : ℕ) × (i < length ts) × (get_or ts i 0 ≡ t)
unfolding has
has_among t [] e = absurd (false≢true e)
has_among t (u ∷ ts) e = go (either_true (eqb t u) (has t ts) e) (has_among t ts)
  where
    go : (eqb t u ≡ true) ⊎ (has t ts ≡ true) → (has t ts ≡ true → (i : ℕ) × (i < length ts) × (get_or ts i 0 ≡ t))
        → (i : ℕ) × (i < length (u ∷ ts)) × (get_or (u ∷ ts) i 0 ≡ t)
    go (inl h) ih = (0, omega arith, sym (eqb-true t u h))
    go (inr h) ih = let k = ih h in (suc k.0, omega (arith, k.1), k.2)

pub among_has : (t : ℕ) (ts : List ℕ) (i : ℕ) → i < length ts → get_or ts i 0 ≡ t → has t ts ≡ true
unfolding has
among_has t [] i h e = absurd (omega arith)
among_has t (u ∷ ts) zero h e = has_first t u ts (sym e)
among_has t (u ∷ ts) (suc i) h e = go (eqb t u) (among_has t ts i (omega arith) e)
  where
    go : (b : Bool) → has t ts ≡ true → b || has t ts ≡ true
    go true k = refl
    go false k = k

has_within : {least end : ℕ} {ts : List ℕ} (t : ℕ) → RisesIn least end ts → has t ts ≡ true → (least ≤ t) × (t < end)
unfolding has
has_within t none e = absurd (false≢true e)
has_within {least} {end} t (rises {ts = ts} u a b r) e = go (either_true (eqb t u) (has t ts) e) (has_within t r)
  where
    go : (eqb t u ≡ true) ⊎ (has t ts ≡ true) → (has t ts ≡ true → (u + 1 ≤ t) × (t < end)) → (least ≤ t) × (t < end)
    go (inl h) ih = (omega (arith, eqb-true t u h), omega (arith, eqb-true t u h))
    go (inr h) ih = (omega (arith, ih h), (ih h).1)

-- what lies outside is not in it
pub has_not : {least end : ℕ} {ts : List ℕ} (t : ℕ) → RisesIn least end ts → ((least ≤ t) × (t < end) → ⊥) → has t ts ≡ false
has_not t r h = never_true _ (λ e. h (has_within t r e))

-- ---- the bit of a type

-- bits above one change nothing in it
bit_low : (k m a r : ℕ) → k < m → (a * 2 ^ m + r) / 2 ^ k % 2 ≡ r / 2 ^ k % 2
bit_low zero zero a r h = absurd (omega arith)
bit_low zero (suc m) a r h = rw (div-one (a * 2 ^ suc m + r), div-one r) (block_odd a m r)
bit_low (suc k) zero a r h = absurd (omega arith)
bit_low (suc k) (suc m) a r h =
    let e : 1 + k ≡ suc k = omega arith in
    rw (← e, ← (shr-shr (a * 2 ^ suc m + r) 1 k), ← (shr-shr r 1 k), block_half a m r) (bit_low k m a (r / 2) (omega arith))

pub bits_has : (first n octet t : ℕ) → first ≤ t → t < first + n → octet < 2 ^ n
    → has t (bit_types first n octet) ≡ eqb (octet / 2 ^ (first + n - (t + 1)) % 2) 1
bits_has first zero octet t a b h = absurd (omega arith)
bits_has first (suc n) octet t a b h = go (dec_lt octet (2 ^ n)) (dec_lt first t) (bits_has (first + 1) n)
  where
    e : first + suc n - (t + 1) ≡ first + 1 + n - (t + 1)
    e = omega arith

    go : Dec (octet < 2 ^ n) → Dec (first < t)
        → ((o u : ℕ) → first + 1 ≤ u → u < first + 1 + n → o < 2 ^ n
        → has u (bit_types (first + 1) n o) ≡ eqb (o / 2 ^ (first + 1 + n - (u + 1)) % 2) 1)
        → has t (bit_types first (suc n) octet) ≡ eqb (octet / 2 ^ (first + suc n - (t + 1)) % 2) 1
    go (yes l) (yes k) ih = rw (bit_clear first n octet l, e) (ih octet t (omega arith) (omega arith) l)
    go (yes l) (no k) ih =
        let f : first + suc n - (t + 1) ≡ n = omega arith in
        rw (bit_clear first n octet l, f, div-eq_of_lt l)
        (has_not t (bits_rise (first + 1) n octet) (λ w. omega (arith, w.0)))
    go (no l) (yes k) ih =
        let r : octet - 2 ^ n < 2 ^ n = omega (arith, pow-suc 2 n) in
        let f : 1 * 2 ^ n + (octet - 2 ^ n) ≡ octet = omega arith in
        let j = bit_low (first + 1 + n - (t + 1)) n 1 (octet - 2 ^ n) (omega arith) in
        rw (bit_set first n octet (omega arith), has_other t first (bit_types (first + 1) n (octet - 2 ^ n)) (λ i. omega arith), e)
        (ih (octet - 2 ^ n) t (omega arith) (omega arith) r ∙ ap (λ (b : ℕ). eqb b 1) (sym (rw f at j)))
    go (no l) (no k) ih =
        let f : first + suc n - (t + 1) ≡ n = omega arith in
        let i : t ≡ first = omega arith in
        let q : octet / 2 ^ n ≡ 1 = div-eq_of_lt-le (2 ^ n) (omega arith) (omega (arith, pow-suc 2 n)) in
        rw (bit_set first n octet (omega arith), f, q) (has_first t first (bit_types (first + 1) n (octet - 2 ^ n)) i)

-- ---- the octet of a type

pub or_false : (b : Bool) → b || false ≡ b
or_false true = refl
or_false false = refl

pub octets_has : (first k t : ℕ) (s : List ℕ) → first + 8 * k ≤ t → t < first + 8 * k + 8 → k < length s
    → has t (octet_types first s) ≡ has t (bit_types (first + 8 * k) 8 (get_or s k 0))
unfolding octet_types
octets_has first k t [] a b h = absurd (omega arith)
octets_has first zero t (o ∷ s) a b h =
    let z : first + 0 ≡ first = omega arith in
    rw (has_append t (bit_types first 8 o) (octet_types (first + 8) s), has_not t (types_rise (first + 8) s) (λ w. omega (arith, w.0)), z)
    (or_false (has t (bit_types first 8 o)))
octets_has first (suc k) t (o ∷ s) a b h =
    let e : first + 8 * suc k ≡ first + 8 + 8 * k = omega arith in
    rw (has_append t (bit_types first 8 o) (octet_types (first + 8) s), has_not t (bits_rise first 8 o) (λ w. omega (arith, w.1)), e)
    (octets_has (first + 8) k t s (omega arith) (omega arith) (omega arith))
