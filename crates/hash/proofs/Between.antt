-- Between on the ring: going up from the first, the number is met before the second (`between_met`). Of all numbers only v lies
-- between the one before v and the one after it (`between_only`, `between_itself`), since the two are v - 1 and v + 1, or go round.
use Rattle.std.proofs.Common.{◌≡◌, ℕ, zero, suc, ◌+◌, ◌-◌, ◌%◌, ◌^◌, ◌<◌, ◌≤◌, Bool, true, false, cond, ◌&&◌, ◌||◌, ltb, ◌⊎◌, List, length}
use Rattle.std.proofs.Common.{sym, refl, inl, inr, mod-eq_of_lt, zero-add, arith, ltb-false, ltb-true, le-ltb, lt-ltb}
use native.Mathlib.Nat.{add-mod_right, mod_self, pow-le-pow_right}
use native.Mathlib.Decide.{dec_lt}
use Rattle.facts.proofs.Booleans.{both_true, either_true, never_true}
use Rattle.order.proofs.Lexicographic.{number_total}
use Rattle.hash.specs.Digits.{value}
use Rattle.hash.specs.Ring.{after, before}
use Rattle.hash.specs.Between.{between, lies_between}
use Rattle.hash.specs.Private.Below.{Below}
use Rattle.hash.proofs.Digits.{value_below, value_injective}
use Rattle.hash.proofs.Ring.{value_after, value_before}

-- ---- the test, read as facts

-- what the test says of the numbers
abbrev Inside : ℕ → ℕ → ℕ → Type 0
Inside a x b = ((a < b) × (a < x) × (x < b)) ⊎ ((b ≤ a) × ((a < x) ⊎ (x < b)))

tested : (a x b : ℕ) → between a x b ≡ true → Inside a x b
tested a x b = go (ltb a b) refl
  where
    either : (ltb a x ≡ true) ⊎ (ltb x b ≡ true) → (a < x) ⊎ (x < b)
    either (inl e) = inl (ltb-true a x e)
    either (inr e) = inr (ltb-true x b e)

    go : (t : Bool) → ltb a b ≡ t → cond t (ltb a x && ltb x b) (ltb a x || ltb x b) ≡ true → Inside a x b
    go true e h = let k = both_true _ _ h in inl (ltb-true a b e, ltb-true a x k.0, ltb-true x b k.1)
    go false e h = inr (ltb-false a b e, either (either_true _ _ h))

inside : (a x b : ℕ) → Inside a x b → between a x b ≡ true
inside a x b (inl (h, k, l)) = rw (lt-ltb a b h, lt-ltb a x k, lt-ltb x b l)
inside a x b (inr (h, inl k)) = rw (le-ltb a b h, lt-ltb a x k)
inside a x b (inr (h, inr k)) = rw (le-ltb a b h, lt-ltb x b k) (or_true (ltb a x))
  where
    or_true : (t : Bool) → t || true ≡ true
    or_true true = refl
    or_true false = refl

-- neither end lies between, and where the two are equal every other number does
pub between_strict : (a b : ℕ) → (between a a b ≡ false) × (between a b b ≡ false)
between_strict a b = (never_true _ (λ e. not_first (tested a a b e)), never_true _ (λ e. not_second (tested a b b e)))
  where
    not_first : Inside a a b → ⊥
    not_first (inl h) = omega arith
    not_first (inr (h, inl k)) = omega arith
    not_first (inr (h, inr k)) = omega arith

    not_second : Inside a b b → ⊥
    not_second (inl h) = omega arith
    not_second (inr (h, inl k)) = omega arith
    not_second (inr (h, inr k)) = omega arith

pub between_round : (a x : ℕ) → (x ≡ a → ⊥) → between a x a ≡ true
between_round a x h = inside a x a (inr (omega arith, go (number_total a x)))
  where
    go : (a < x) ⊎ ((a ≡ x) ⊎ (x < a)) → (a < x) ⊎ (x < a)
    go (inl k) = inl k
    go (inr (inl k)) = absurd (h (sym k))
    go (inr (inr k)) = inr k

-- ---- going up

-- the steps from a up to x on the ring of m numbers; from a to itself the way goes round
abbrev up : ℕ → ℕ → ℕ → ℕ
up m a x = cond (ltb a x) (x - a) (x + m - a)

same_test : (x y v w : ℕ) → (x < y → v < w) → (y ≤ x → w ≤ v) → ltb x y ≡ ltb v w
same_test x y v w f g = go (ltb x y) refl
  where
    go : (t : Bool) → ltb x y ≡ t → t ≡ ltb v w
    go true e = sym (lt-ltb v w (f (ltb-true x y e)))
    go false e = sym (le-ltb v w (g (ltb-false x y e)))

-- what lies between is met before the second
pub between_met : (m a x b : ℕ) → a < m → x < m → b < m → between a x b ≡ ltb (up m a x) (up m a b)
between_met m a x b ha hx hb = go (ltb a b) refl (ltb a x) refl
  where
    go : (t : Bool) → ltb a b ≡ t → (u : Bool) → ltb a x ≡ u
        → cond t (u && ltb x b) (u || ltb x b) ≡ ltb (cond u (x - a) (x + m - a)) (cond t (b - a) (b + m - a))
    go true e true f =
        let h = ltb-true a b e in
        let k = ltb-true a x f in
        same_test x b (x - a) (b - a) (λ l. omega arith) (λ l. omega arith)
    go true e false f = let h = ltb-false a x f in sym (le-ltb (x + m - a) (b - a) (omega arith))
    go false e true f = let h = ltb-false a b e in sym (lt-ltb (x - a) (b + m - a) (omega arith))
    go false e false f = same_test x b (x + m - a) (b + m - a) (λ l. omega arith) (λ l. omega arith)

-- ---- the number before and the number after

before_cases : (m v : ℕ) → v < m → ((0 < v) × ((v + (m - 1)) % m ≡ v - 1)) ⊎ ((v ≡ 0) × ((v + (m - 1)) % m ≡ m - 1))
before_cases m zero h = let k : m - 1 < m = omega arith in inr (refl, rw zero-add (mod-eq_of_lt k))
before_cases m (suc v) h =
    let e : suc v + (m - 1) ≡ v + m = omega arith in
    let k : v < m = omega arith in
    let l : suc v - 1 ≡ v = omega arith in
    inl (omega arith, rw (e, l, add-mod_right) (mod-eq_of_lt k))

after_cases : (m v : ℕ) → v < m → ((v + 1 < m) × ((v + 1) % m ≡ v + 1)) ⊎ ((v + 1 ≡ m) × ((v + 1) % m ≡ 0))
after_cases m v h = go (dec_lt (v + 1) m)
  where
    go : Dec (v + 1 < m) → ((v + 1 < m) × ((v + 1) % m ≡ v + 1)) ⊎ ((v + 1 ≡ m) × ((v + 1) % m ≡ 0))
    go (yes k) = inl (k, mod-eq_of_lt k)
    go (no k) = let e : v + 1 ≡ m = omega arith in inr (e, rw e (mod_self m))

module _ (m v : ℕ) (three : 3 ≤ m) (h : v < m) where
  alone : (a b : ℕ) → ((0 < v) × (a ≡ v - 1)) ⊎ ((v ≡ 0) × (a ≡ m - 1)) → ((v + 1 < m) × (b ≡ v + 1)) ⊎ ((v + 1 ≡ m) × (b ≡ 0))
      → (x : ℕ) → x < m → Inside a x b → x ≡ v
  alone a b (inl p) (inl q) x k (inl i) = omega arith
  alone a b (inl p) (inl q) x k (inr (i, j)) = absurd (omega arith)
  alone a b (inl p) (inr q) x k (inl i) = absurd (omega arith)
  alone a b (inl p) (inr q) x k (inr (i, inl j)) = omega arith
  alone a b (inl p) (inr q) x k (inr (i, inr j)) = absurd (omega arith)
  alone a b (inr p) (inl q) x k (inl i) = absurd (omega arith)
  alone a b (inr p) (inl q) x k (inr (i, inl j)) = absurd (omega arith)
  alone a b (inr p) (inl q) x k (inr (i, inr j)) = omega arith
  alone a b (inr p) (inr q) x k i = absurd (omega arith)

  itself : (a b : ℕ) → ((0 < v) × (a ≡ v - 1)) ⊎ ((v ≡ 0) × (a ≡ m - 1)) → ((v + 1 < m) × (b ≡ v + 1)) ⊎ ((v + 1 ≡ m) × (b ≡ 0))
      → Inside a v b
  itself a b (inl p) (inl q) = inl (omega arith, omega arith, omega arith)
  itself a b (inl p) (inr q) = inr (omega arith, inl (omega arith))
  itself a b (inr p) (inl q) = inr (omega arith, inr (omega arith))
  itself a b (inr p) (inr q) = absurd (omega arith)

-- ---- hashes

module _ (hash : List ℕ) (some : 1 ≤ length hash) (octets : Below 256 hash) where
  m : ℕ
  m = 256 ^ length hash

  many : 3 ≤ m
  unfolding m
  many = let k : 256 ^ 1 ≤ 256 ^ length hash = pow-le-pow_right (omega arith) some in omega arith

  low : value 256 hash < m
  unfolding m
  low = value_below 256 hash octets

  -- of all hashes only the hash itself lies between the one before it and the one after it
  pub between_only : (other : List ℕ) → length other ≡ length hash → Below 256 other
      → lies_between (before hash) other (after hash) ≡ true → other ≡ hash
  unfolding m
  between_only other e k i =
      let room : value 256 other < 256 ^ length hash = rw (← e) (value_below 256 other k) in
      value_injective 256 other hash e k octets
      (alone m (value 256 hash) many low _ _ (before_cases m (value 256 hash) low) (after_cases m (value 256 hash) low) (value 256 other)
      room
      (rw (value_before hash octets, value_after hash) at (tested (value 256 (before hash)) (value 256 other) (value 256 (after hash)) i)))

  pub between_itself : lies_between (before hash) hash (after hash) ≡ true
  unfolding m
  between_itself =
      rw (value_before hash octets, value_after hash)
      (inside _ _ _ (itself m (value 256 hash) many low _ _ (before_cases m (value 256 hash) low) (after_cases m (value 256 hash) low)))
