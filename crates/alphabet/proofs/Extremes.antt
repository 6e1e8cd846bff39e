-- The ends of any alphabet: an octet of it has a next one unless it is the greatest (`next_found`, `greatest_last`), and a previous one
-- unless it is the least (`previous_found`, `least_first`). There is one least and one greatest number with a property.
use mathlib.Core.Path.{◌≡◌, refl, ap}
use mathlib.Core.Option.{Option, none, some}
use mathlib.Core.Bool.{Bool}
use Prim.Native.Nat.{ℕ, suc, ◌≤◌, ◌<◌}
use native.Mathlib.Omega.{arith}
use lib.Dec.{T}
use Rattle.order.proofs.Members.{Octet}
use Rattle.zone.specs.Alphabet.{from, below}
use Rattle.zone.specs.Steps.{or_zero, least, greatest}
use Rattle.zone.proofs.Octets.{Min, Max, from_law, below_law}
use Rattle.zone.proofs.Steps.{least_found, greatest_found}
use Rattle.alphabet.specs.Alphabets.{or_this}

pub min_unique : (P : ℕ → Type 0) (m n : Option ℕ) → Min P m → Min P n → m ≡ n
min_unique P none none h k = refl
min_unique P none (some q) h k = absurd (h q k.0)
min_unique P (some o) none h k = absurd (k o h.0)
min_unique P (some o) (some q) h k = ap some (omega (arith, h.1 q k.0, k.1 o h.0))

pub max_unique : (P : ℕ → Type 0) (m n : Option ℕ) → Max P m → Max P n → m ≡ n
max_unique P none none h k = refl
max_unique P none (some q) h k = absurd (h q k.0)
max_unique P (some o) none h k = absurd (k o h.0)
max_unique P (some o) (some q) h k = ap some (omega (arith, h.1 q k.0, k.1 o h.0))

module _ (allowed : ℕ → Bool) where
  -- no octet of the alphabet is above the greatest, or below the least
  greatest_most : (p : ℕ) → Octet allowed p → p ≤ greatest allowed
  unfolding greatest
  greatest_most p h = go (below allowed 256) (below_law allowed 256)
    where
      go : (m : Option ℕ) → Max (λ q. (q < 256) × T (allowed q)) m → p ≤ or_zero m
      go (some g) l = l.1 p h
      go none l = absurd (l p h)

  least_most : (p : ℕ) → Octet allowed p → least allowed ≤ p
  unfolding least
  least_most p h = go (from allowed 0) (from_law allowed 0)
    where
      go : (m : Option ℕ) → Min (λ q. (0 ≤ q) × Octet allowed q) m → or_zero m ≤ p
      go (some g) l = l.1 p (omega arith, h)
      go none l = absurd (l p (omega arith, h))

  pub greatest_last : from allowed (suc (greatest allowed)) ≡ none
  greatest_last = min_unique _ _ none (from_law allowed _) (λ p h. omega (arith, greatest_most p h.1))

  least_small : least allowed < 256
  unfolding least
  least_small = go (from allowed 0) (from_law allowed 0)
    where
      go : (m : Option ℕ) → Min (λ q. (0 ≤ q) × Octet allowed q) m → or_zero m < 256
      go (some g) l = l.0.1.0
      go none l = omega arith

  pub least_first : below allowed (least allowed) ≡ none
  least_first =
      max_unique _ _ none (below_law allowed _)
      (λ p h. let q : Octet allowed p = (omega (arith, least_small), h.1) in omega (arith, least_most p q))

  module _ (o : ℕ) (octet : Octet allowed o) where
    pub greatest_in : Octet allowed (greatest allowed)
    greatest_in = let h = rw (greatest_found allowed o octet) at (below_law allowed 256) in h.0

    pub least_in : Octet allowed (least allowed)
    least_in = let h = rw (least_found allowed o octet) at (from_law allowed 0) in h.0.1

    pub next_found : (o ≡ greatest allowed → ⊥) → from allowed (suc o) ≡ some (or_this (from allowed (suc o)) o)
    next_found ne = go (from allowed (suc o)) (from_law allowed (suc o))
      where
        go : (m : Option ℕ) → Min (λ p. (suc o ≤ p) × Octet allowed p) m → m ≡ some (or_this m o)
        go (some q) h = refl
        go none h = absurd (h (greatest allowed) (omega (arith, greatest_most o octet), greatest_in))

    pub previous_found : (o ≡ least allowed → ⊥) → below allowed o ≡ some (or_this (below allowed o) o)
    previous_found ne = go (below allowed o) (below_law allowed o)
      where
        go : (m : Option ℕ) → Max (λ p. (p < o) × T (allowed p)) m → m ≡ some (or_this m o)
        go (some q) h = refl
        go none h = absurd (h (least allowed) (omega (arith, least_most o octet), least_in.1))
