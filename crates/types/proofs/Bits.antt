-- The bits of an octet and the types that they stand for, over the number of bits: the octet of the types of an octet is that octet
-- (`bits_octet`), and the types of the octet of types are those (`octet_bits`).
use mathlib.Core.Path.{◌≡◌, refl, sym, ap, subst, ◌∙◌}
use mathlib.Core.List.{List, [], ◌∷◌}
use mathlib.Core.Bool.{Bool, true, false, cond}
use Prim.Native.Nat.{ℕ, zero, suc, ◌+◌, ◌-◌, ◌*◌, ◌/◌, ◌^◌, ◌≤◌, ◌<◌}
use native.Mathlib.Nat.{pow-suc}
use native.Mathlib.Decide.{dec_lt}
use native.Mathlib.Omega.{arith}
use borrow.Author.Tests.{leb-true, leb-false, le-leb, lt-leb}
use lib.Dec.{leb}
use lib.Pow.{pow_pos, pow-add, shl-shr}
use Rattle.types.specs.Sets.{RisesIn, none, rises}
use Rattle.types.specs.Window.{bit_types, octet_of}
use Rattle.types.proofs.Sets.{rises_wider}

-- the highest bit of an octet, moved down
pub half_bits : (z : ℕ) → z ≤ 7 → 128 / 2 ^ z ≡ 2 ^ (7 - z)
half_bits z h =
    let e : 7 - z + z ≡ 7 = omega arith in
    let p : 2 ^ 7 ≡ 2 ^ (7 - z) * 2 ^ z = rw e at (pow-add 2 (7 - z) z) in
    ap (λ (n : ℕ). n / 2 ^ z) p ∙ shl-shr (2 ^ (7 - z)) z

-- ---- one bit more

module _ (first n octet : ℕ) where
  pub bit_set : 2 ^ n ≤ octet → bit_types first (suc n) octet ≡ first ∷ bit_types (first + 1) n (octet - 2 ^ n)
  unfolding bit_types
  bit_set h = rw (le-leb (2 ^ n) octet h)

  pub bit_clear : octet < 2 ^ n → bit_types first (suc n) octet ≡ bit_types (first + 1) n octet
  unfolding bit_types
  bit_clear h = rw (lt-leb (2 ^ n) octet h)

pub bits_rise : (first n octet : ℕ) → RisesIn first (first + n) (bit_types first n octet)
unfolding bit_types
bits_rise first zero octet = none
bits_rise first (suc n) octet = go (leb (2 ^ n) octet) (bits_rise (first + 1) n)
  where
    go : (b : Bool) → ((o : ℕ) → RisesIn (first + 1) (first + 1 + n) (bit_types (first + 1) n o))
        → RisesIn first (first + suc n) (cond b (first ∷ bit_types (first + 1) n (octet - 2 ^ n)) (bit_types (first + 1) n octet))
    go true ih = rises {least = first} {end = first + suc n} first (omega arith) (omega arith)
        (rises_wider (ih (octet - 2 ^ n)) (omega arith) (omega arith))
    go false ih = rises_wider (ih octet) (omega arith) (omega arith)

pub bits_none : (first n : ℕ) → bit_types first n 0 ≡ []
unfolding bit_types
bits_none first zero = refl
bits_none first (suc n) = bit_clear first n 0 (pow_pos n) ∙ bits_none (first + 1) n

-- ---- there and back

pub bits_octet : (first n octet : ℕ) → octet < 2 ^ n → octet_of (first + n) (bit_types first n octet) ≡ octet
unfolding bit_types octet_of
bits_octet first zero octet h = omega arith
bits_octet first (suc n) octet h = go (leb (2 ^ n) octet) refl (bits_octet (first + 1) n)
  where
    e : first + suc n ≡ first + 1 + n
    e = omega arith

    k : first + 1 + n - (first + 1) ≡ n
    k = omega arith

    go : (b : Bool) → leb (2 ^ n) octet ≡ b → ((o : ℕ) → o < 2 ^ n → octet_of (first + 1 + n) (bit_types (first + 1) n o) ≡ o)
        → octet_of (first + suc n) (cond b (first ∷ bit_types (first + 1) n (octet - 2 ^ n)) (bit_types (first + 1) n octet)) ≡ octet
    go true t ih =
        let l = leb-true (2 ^ n) octet t in
        subst (λ (m : ℕ). octet_of m (first ∷ bit_types (first + 1) n (octet - 2 ^ n)) ≡ octet) (sym e)
        (rw (k, ih (octet - 2 ^ n) (omega (arith, pow-suc 2 n))) (omega arith))
    go false t ih =
        subst (λ (m : ℕ). octet_of m (bit_types (first + 1) n octet) ≡ octet) (sym e) (ih octet (leb-false (2 ^ n) octet t))

-- the octet of types is small, and has these types
pub octet_bits : (first n : ℕ) {ts : List ℕ} → RisesIn first (first + n) ts
    → (octet_of (first + n) ts < 2 ^ n) × (bit_types first n (octet_of (first + n) ts) ≡ ts)
unfolding octet_of bit_types
octet_bits first zero none = (omega arith, refl)
octet_bits first zero (rises t a b r) = absurd (omega arith)
octet_bits first (suc n) none = (pow_pos (suc n), bits_none first (suc n))
octet_bits first (suc n) (rises {ts = ts} t a b r) = go (dec_lt first t) (λ us q. octet_bits (first + 1) n q)
  where
    e : first + suc n ≡ first + 1 + n
    e = omega arith

    go : Dec (first < t)
        → ((us : List ℕ) → RisesIn (first + 1) (first + 1 + n) us
        → (octet_of (first + 1 + n) us < 2 ^ n) × (bit_types (first + 1) n (octet_of (first + 1 + n) us) ≡ us))
        → (octet_of (first + suc n) (t ∷ ts) < 2 ^ suc n) × (bit_types first (suc n) (octet_of (first + suc n) (t ∷ ts)) ≡ t ∷ ts)
    go (yes h) ih =
        let i = ih (t ∷ ts) (rises {least = first + 1} {end = first + 1 + n} t (omega arith) (omega arith) (rw e at r)) in
        let o : ℕ = octet_of (first + 1 + n) (t ∷ ts) in
        subst (λ (m : ℕ). (octet_of m (t ∷ ts) < 2 ^ suc n) × (bit_types first (suc n) (octet_of m (t ∷ ts)) ≡ t ∷ ts)) (sym e)
        (omega (arith, i.0, pow-suc 2 n), bit_clear first n o i.0 ∙ i.1)
    go (no h) ih =
        let f : t ≡ first = omega arith in
        let i = ih ts (rw (e, f) at r) in
        let k : first + 1 + n - (first + 1) ≡ n = omega arith in
        let o : ℕ = octet_of (first + 1 + n) ts in
        let d : 2 ^ n + o - 2 ^ n ≡ o = omega arith in
        subst (λ (m : ℕ). (octet_of m (t ∷ ts) < 2 ^ suc n) × (bit_types first (suc n) (octet_of m (t ∷ ts)) ≡ t ∷ ts)) (sym e)
        (rw (f, k) (omega (arith, i.0, pow-suc 2 n), bit_set first n (2 ^ n + o) (omega arith) ∙ rw (d, i.1)))
