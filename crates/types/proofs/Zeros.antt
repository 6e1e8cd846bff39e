-- The first and the last type of an octet's bits: the leading zeros lead to the first (`bits_first`), and the trailing zeros to the last
-- (`bits_last`). And the number of types is the number of ones (`bits_ones`).
use mathlib.Core.Path.{◌≡◌, refl, sym, ap, ◌∙◌}
use mathlib.Core.List.{[], ◌∷◌}
use mathlib.Core.Bool.{Bool, true, false, cond}
use Prim.Native.Nat.{ℕ, zero, suc, ◌+◌, ◌-◌, ◌*◌, ◌/◌, ◌%◌, ◌^◌, ◌≤◌, ◌<◌}
use native.Mathlib.Nat.{pow-suc}
use native.Mathlib.Decide.{dec_lt}
use native.Mathlib.Omega.{arith}
use borrow.Author.Tests.{leb-true, leb-false}
use lib.Bits.{block_half, block_odd}
use lib.Count.{ones, ones_cat, count_leading_zeros, leading_top, count_trailing_zeros, under}
use lib.Dec.{leb}
use lib.ListN.{length}
use lib.Pow.{pow_mono}
use Rattle.types.specs.Window.{bit_types}
use Rattle.types.proofs.Sets.{Last, last_cons, last_behind}
use Rattle.types.proofs.Bits.{bit_set, bit_clear, bits_none}

-- ---- the first

no_bits : (first octet : ℕ) → bit_types first 0 octet ≡ []
unfolding bit_types
no_bits first octet = refl

-- bits that are 0 are passed
bits_fewer : (first n j octet : ℕ) → octet < 2 ^ j → j ≤ n → bit_types first n octet ≡ bit_types (first + (n - j)) j octet
bits_fewer first zero zero octet h k = no_bits first octet ∙ sym (no_bits (first + (0 - 0)) octet)
bits_fewer first zero (suc j) octet h k = absurd (omega arith)
bits_fewer first (suc n) j octet h k = go (dec_lt n j) (bits_fewer (first + 1) n j octet h)
  where
    go : Dec (n < j) → (j ≤ n → bit_types (first + 1) n octet ≡ bit_types (first + 1 + (n - j)) j octet)
        → bit_types first (suc n) octet ≡ bit_types (first + (suc n - j)) j octet
    go (yes l) ih =
        let e : j ≡ suc n = omega arith in
        let f : first + (suc n - suc n) ≡ first = omega arith in
        rw (e, f)
    go (no l) ih =
        let e : first + 1 + (n - j) ≡ first + (suc n - j) = omega arith in
        bit_clear first n octet (omega (arith, pow_mono {i = j} {j = n} (omega arith))) ∙ ih (omega arith) ∙ rw e

bits_top : (first n j octet : ℕ) → j < n → 2 ^ j ≤ octet → octet < 2 ^ suc j
    → bit_types first n octet ≡ (first + (n - suc j)) ∷ bit_types first n (octet - 2 ^ j)
bits_top first n j octet h a b =
    let e : first + (n - suc j) + 1 ≡ first + (n - j) = omega arith in
    bits_fewer first n (suc j) octet b (omega arith) ∙ bit_set (first + (n - suc j)) j octet a
    ∙ rw (e, bits_fewer first n j (octet - 2 ^ j) (omega (arith, pow-suc 2 j)) (omega arith))

pub bits_first : (first octet z : ℕ) → 1 ≤ octet → octet ≤ 255 → z ≡ count_leading_zeros 8 octet
    → (z ≤ 7) × (2 ^ (7 - z) ≤ octet) × (bit_types first 8 octet ≡ (first + z) ∷ bit_types first 8 (octet - 2 ^ (7 - z)))
bits_first first octet z a b e =
    let k = leading_top 8 octet a (omega arith) in
    let j : k.0 ≡ 7 - z = omega (arith, k.1) in
    let i : first + (8 - suc (7 - z)) ≡ first + z = omega (arith, k.1) in (
      omega (arith, k.1),
      rw j at k.2,
      rw i at (bits_top first 8 (7 - z) octet (omega arith) (rw j at k.2) (rw j at k.3)),
    )

-- ---- the last

under_same : (d t u : ℕ) → (d ≡ 0 → t ≡ u) → under d t ≡ under d u
under_same zero t u h = ap suc (h refl)
under_same (suc d) t u h = refl

-- what stands above the lowest set bit changes nothing
trailing_low : (m a r : ℕ) → 1 ≤ r → r < 2 ^ m → count_trailing_zeros (suc m) (a * 2 ^ m + r) ≡ count_trailing_zeros m r
unfolding count_trailing_zeros
trailing_low zero a r h k = absurd (omega arith)
trailing_low (suc m) a r h k =
    rw (block_odd a m r, block_half a m r)
    (under_same (r % 2) _ _ (λ e. trailing_low m a (r / 2) (omega arith) (omega (arith, pow-suc 2 m))))

trailing_bit : (m : ℕ) → count_trailing_zeros (suc m) (1 * 2 ^ m + 0) ≡ m
unfolding count_trailing_zeros
trailing_bit zero = refl
trailing_bit (suc m) = rw (block_odd 1 m 0, block_half 1 m 0) (ap suc (trailing_bit m))

pub bits_last : (first n octet z : ℕ) → 1 ≤ octet → octet < 2 ^ n → z ≡ count_trailing_zeros n octet
    → (last : ℕ) × Last (bit_types first n octet) last × (last + z + 1 ≡ first + n)
bits_last first zero octet z a b e = absurd (omega arith)
bits_last first (suc n) octet z a b e = go (dec_lt octet (2 ^ n)) (dec_lt (2 ^ n) octet) (bits_last (first + 1) n)
  where
    go : Dec (octet < 2 ^ n) → Dec (2 ^ n < octet)
        → ((o y : ℕ) → 1 ≤ o → o < 2 ^ n → y ≡ count_trailing_zeros n o
        → (last : ℕ) × Last (bit_types (first + 1) n o) last × (last + y + 1 ≡ first + 1 + n))
        → (last : ℕ) × Last (bit_types first (suc n) octet) last × (last + z + 1 ≡ first + suc n)
    go (yes h) d ih =
        let f : 0 * 2 ^ n + octet ≡ octet = omega arith in
        let k = ih octet z a h (e ∙ rw f at (trailing_low n 0 octet a h)) in
        (k.0, rw (bit_clear first n octet h) k.1, omega (arith, k.2))
    go (no h) (yes g) ih =
        let l : octet - 2 ^ n < 2 ^ n = omega (arith, pow-suc 2 n) in
        let f : 1 * 2 ^ n + (octet - 2 ^ n) ≡ octet = omega arith in
        let k = ih (octet - 2 ^ n) z (omega arith) l (e ∙ rw f at (trailing_low n 1 (octet - 2 ^ n) (omega arith) l)) in
        (k.0, rw (bit_set first n octet (omega arith)) (last_behind (first ∷ []) {last = k.0} k.1), omega (arith, k.2))
    go (no h) (no g) ih =
        let f : 1 * 2 ^ n + 0 ≡ octet = omega arith in
        let i : octet - 2 ^ n ≡ 0 = omega arith in
        let t : z ≡ n = e ∙ rw f at (trailing_bit n) in
        (first, rw (bit_set first n octet (omega arith), i, bits_none (first + 1) n) (last_cons first), omega arith)

-- an octet that is not 0 has at most seven zeros at either end
pub zeros_few : (octet : ℕ) → 1 ≤ octet → octet ≤ 255 → (count_leading_zeros 8 octet ≤ 7) × (count_trailing_zeros 8 octet ≤ 7)
zeros_few octet a b =
    let k = bits_last 0 8 octet (count_trailing_zeros 8 octet) a (omega arith) refl in
    ((bits_first 0 octet (count_leading_zeros 8 octet) a b refl).0, omega (arith, k.2))

-- ---- how many

few_ones : (ones 0 ≡ 0) × (ones 1 ≡ 1)
unfolding ones
few_ones = (refl, refl)

pub bits_ones : (first n octet : ℕ) → octet < 2 ^ n → length (bit_types first n octet) ≡ ones octet
unfolding bit_types
bits_ones first zero octet h = let e : octet ≡ 0 = omega arith in rw e (sym few_ones.0)
bits_ones first (suc n) octet h = go (leb (2 ^ n) octet) refl (bits_ones (first + 1) n)
  where
    go : (b : Bool) → leb (2 ^ n) octet ≡ b → ((o : ℕ) → o < 2 ^ n → length (bit_types (first + 1) n o) ≡ ones o)
        → length (cond b (first ∷ bit_types (first + 1) n (octet - 2 ^ n)) (bit_types (first + 1) n octet)) ≡ ones octet
    go true t ih =
        let l = leb-true (2 ^ n) octet t in
        let k : octet - 2 ^ n < 2 ^ n = omega (arith, pow-suc 2 n) in
        let f : 1 * 2 ^ n + (octet - 2 ^ n) ≡ octet = omega arith in
        omega (arith, ih (octet - 2 ^ n) k, few_ones.1, rw f at (ones_cat n 1 (octet - 2 ^ n) k))
    go false t ih = ih octet (leb-false (2 ^ n) octet t)
