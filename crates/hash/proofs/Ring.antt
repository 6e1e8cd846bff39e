-- The ring of the hashes of one length n: the hash after is one more as a number and the hash before one less, modulo 256 ^ n
-- (`value_after`, `value_before`), and each undoes the other (`after_before`, `before_after`). One step of the carried says what an octet
-- and the carry into it come to, and the rest is induction.
use Rattle.std.proofs.Common.{◌≡◌, ℕ, zero, suc, ◌+◌, ◌-◌, ◌*◌, ◌/◌, ◌%◌, ◌^◌, ◌<◌, ◌≤◌, Bool, true, false, cond, ltb, List, [], ◌∷◌}
use Rattle.std.proofs.Common.{length, replicate, sym, refl, ap, ◌∙◌, mod-lt, mod-eq_of_lt, add-mul, div-add-mod', arith, ltb-false}
use Rattle.std.proofs.Common.{ltb-true}
use native.Mathlib.Nat.{pow-succ', mod-add-mod, add-mod_right}
use lib.Arith.{digits_mod}
use Rattle.hash.specs.Digits.{value}
use Rattle.hash.specs.Ring.{carried, after, borrowed, before}
use Rattle.hash.specs.Private.Below.{Below}
use Rattle.hash.proofs.Digits.{value_below, value_injective}

pub after_length : (s : List ℕ) → length (after s) ≡ length s
unfolding after
after_length [] = refl
after_length (o ∷ s) = ap suc (after_length s)

pub before_length : (s : List ℕ) → length (before s) ≡ length s
unfolding before
before_length [] = refl
before_length (o ∷ s) = ap suc (before_length s)

pub after_octets : (s : List ℕ) → Below 256 (after s)
unfolding after
after_octets [] = tt
after_octets (o ∷ s) = (mod-lt (o + carried s) (omega arith), after_octets s)

pub before_octets : (s : List ℕ) → Below 256 (before s)
unfolding before
before_octets [] = tt
before_octets (o ∷ s) = (mod-lt (o + 256 - borrowed s) (omega arith), before_octets s)

-- ---- one octet of the carry and of the borrow

pub carried_most : (s : List ℕ) → Below 256 s → carried s ≤ 1
unfolding carried
carried_most [] h = omega arith
carried_most (o ∷ s) h = omega (arith, h.0, carried_most s h.1)

pub borrowed_most : (s : List ℕ) → borrowed s ≤ 1
unfolding borrowed
borrowed_most [] = omega arith
borrowed_most (o ∷ s) = go (ltb o (borrowed s))
  where
    go : (t : Bool) → cond t 1 0 ≤ 1
    go true = omega arith
    go false = omega arith

borrow_step : (o b : ℕ) → o < 256 → b ≤ 1 → (o + 256 - b) % 256 + b ≡ o + cond (ltb o b) 1 0 * 256
borrow_step o b h k = go (ltb o b) refl
  where
    go : (t : Bool) → ltb o b ≡ t → (o + 256 - b) % 256 + b ≡ o + cond t 1 0 * 256
    go true e = omega (arith, ltb-true o b e)
    go false e = omega (arith, ltb-false o b e)

-- ---- one more and one less modulo m

module _ (m v w : ℕ) where
  -- where one more than w is v, w is one less than v
  one_less : w < m → (w + 1) % m ≡ v → w ≡ (v + (m - 1)) % m
  one_less h e =
      let k : w + 1 + (m - 1) ≡ w + m = omega arith in
      sym (rw (← e, mod-add-mod, k, add-mod_right) (mod-eq_of_lt h))

-- ---- the numbers

-- nothing is lost: what is carried beyond the octets counts 256 ^ n
carried_value : (s : List ℕ) → carried s * 256 ^ length s + value 256 (after s) ≡ value 256 s + 1
unfolding carried after value
carried_value [] = refl
carried_value (o ∷ s) =
    let m = 256 ^ length s in
    let split : (o + carried s) / 256 * 256 * m + (o + carried s) % 256 * m ≡ (o + carried s) * m =
    rw (← add-mul, div-add-mod') in
    rw (after_length s, pow-succ' 256 (length s)) (omega (arith, split, carried_value s))

borrowed_value : (s : List ℕ) → Below 256 s → value 256 (before s) + 1 ≡ borrowed s * 256 ^ length s + value 256 s
unfolding borrowed before value
borrowed_value [] h = refl
borrowed_value (o ∷ s) h =
    let m = 256 ^ length s in
    let step = ap (λ (n : ℕ). n * m) (borrow_step o (borrowed s) h.0 (borrowed_most s)) in
    rw (before_length s, pow-succ' 256 (length s)) (omega (arith, step, borrowed_value s h.1))

module _ (s : List ℕ) where
  low_after : value 256 (after s) < 256 ^ length s
  low_after = rw after_length at (value_below 256 (after s) (after_octets s))

  low_before : value 256 (before s) < 256 ^ length s
  low_before = rw before_length at (value_below 256 (before s) (before_octets s))

  pub value_after : value 256 (after s) ≡ (value 256 s + 1) % 256 ^ length s
  value_after = sym (digits_mod (carried s) low_after) ∙ ap (λ (n : ℕ). n % 256 ^ length s) (carried_value s)

  module _ (h : Below 256 s) where
    -- one more than the hash before is the hash
    before_more : (value 256 (before s) + 1) % 256 ^ length s ≡ value 256 s
    before_more =
        ap (λ (n : ℕ). n % 256 ^ length s) (borrowed_value s h) ∙ digits_mod (borrowed s) (value_below 256 s h)

    pub value_before : value 256 (before s) ≡ (value 256 s + (256 ^ length s - 1)) % 256 ^ length s
    value_before = one_less (256 ^ length s) _ _ low_before before_more

pub after_before : (s : List ℕ) → Below 256 s → after (before s) ≡ s
after_before s h =
    value_injective 256 _ _ (after_length (before s) ∙ before_length s) (after_octets (before s)) h
    ((rw before_length at (value_after (before s))) ∙ before_more s h)

pub before_after : (s : List ℕ) → Below 256 s → before (after s) ≡ s
before_after s h =
    value_injective 256 _ _ (before_length (after s) ∙ after_length s) (before_octets (after s)) h
    ((rw after_length at (value_before (after s) (after_octets s)))
    ∙ sym (one_less (256 ^ length s) _ _ (value_below 256 s h) (sym (value_after s))))

-- ---- the ends of the ring

carried_all : (n : ℕ) → carried (replicate n 255) ≡ 1
unfolding carried
carried_all zero = refl
carried_all (suc n) = rw (carried_all n)

-- after n times ff comes n times 00
pub after_last : (n : ℕ) → after (replicate n 255) ≡ replicate n 0
unfolding after
after_last zero = refl
after_last (suc n) = rw (carried_all n, after_last n)
