-- The steps of the full alphabet from any octet: 64 to 90 have the next octet 91, 65 to 91 the previous octet 64, and any other step is
-- by one. 255 has no next octet, and 0 no previous one.
use mathlib.Core.Path.{◌≡◌}
use Prim.Native.Nat.{ℕ, suc, ◌+◌, ◌-◌, ◌≤◌, ◌<◌}
use native.Mathlib.Omega.{arith}
use Rattle.order.specs.Place.{full}
use Rattle.zone.specs.Alphabet.{from, below}
use Rattle.zone.proofs.Octets.{from_some, below_some}
use Rattle.zone.proofs.FullAlphabet.{full_not_upper, not_upper_full, next_255, before_0}
use Rattle.alphabet.specs.Alphabets.{or_this}

pub full_next : (o : ℕ) → (64 ≤ o → o ≤ 90 → ⊥) → o < 255 → o + 1 ≡ or_this (from full (suc o)) o
full_next o f h =
    rw (from_some full (suc o) (o + 1) (omega arith) (omega arith, not_upper_full (o + 1) (λ a b. f (omega arith) (omega arith)))
    (λ p a k. omega arith))

pub full_next_gap : (o : ℕ) → 64 ≤ o → o ≤ 90 → 91 ≡ or_this (from full (suc o)) o
full_next_gap o a b =
    rw (from_some full (suc o) 91 (omega arith) (omega arith, tt)
    (λ p low k. let f : p ≤ 90 → ⊥ = full_not_upper p k.1 (omega arith) in omega arith))

pub full_next_end : (o : ℕ) → o ≡ 255 → o ≡ or_this (from full (suc o)) o
full_next_end o e = rw (e, next_255)

pub full_previous : (o : ℕ) → (64 < o → o ≤ 91 → ⊥) → 0 < o → o - 1 ≡ or_this (below full o) o
full_previous o f h =
    rw (below_some full o (o - 1) (omega arith) (not_upper_full (o - 1) (λ a b. f (omega arith) (omega arith))) (λ p a k. omega arith))

pub full_previous_gap : (o : ℕ) → 64 < o → o ≤ 91 → 64 ≡ or_this (below full o) o
full_previous_gap o a b =
    rw (below_some full o 64 (omega arith) tt
    (λ p less k. let f : 65 ≤ p → ⊥ = λ h. full_not_upper p k h (omega arith) in omega arith))

pub full_previous_end : (o : ℕ) → o ≡ 0 → o ≡ or_this (below full o) o
full_previous_end o e = rw (e, before_0)
