-- The alphabet of letters, digits and hyphens: its table rises, by one test over all of it. An octet is one of it by compares, which
-- agree with the table at each of the 256 octets (`ldh_tests`, `folds_tests`), and so do the steps (`ldh_next`, `ldh_previous`).
use mathlib.Core.Path.{◌≡◌, refl, ap}
use mathlib.Core.Bool.{Bool, true, false, cond, ◌&&◌, ◌||◌}
use mathlib.Core.Logic.{◌⊎◌, inl, inr, ◌↔◌}
use mathlib.Core.Option.{none}
use Prim.Native.Nat.{ℕ, zero, suc, ◌≤◌, ◌<◌}
use native.Mathlib.Omega.{arith}
use borrow.Author.Tests.{eqb-true, eqb-false, ltb-false, le-ltb, lt-ltb}
use lib.Dec.{T, ltb, leb, eqb, eqb→eq, leb→le, le→leb}
use lib.ListN.{length, get_or}
use Rattle.space.specs.Fold.{lower_of}
use Rattle.order.proofs.Members.{Octet}
use Rattle.zone.specs.Alphabet.{from, below}
use Rattle.zone.specs.Steps.{or_zero, least, greatest}
use Rattle.zone.proofs.Octets.{from_law, below_law, from_some, below_some}
use Rattle.alphabet.specs.declared.Alphabet.TheVariants.{Ldh}
use Rattle.alphabet.specs.Alphabets.{ldh, among, allowed, or_this}
use Rattle.alphabet.proofs.Tables.{rises, rises_at}
use Rattle.alphabet.proofs.Extremes.{min_unique, max_unique}

pub ldh_rises : T (rises 0 ldh)
unfolding ldh
ldh_rises = tt

pub ldh_length : length ldh ≡ 37
unfolding ldh
ldh_length = refl

pub ldh_rising : (i : ℕ) → suc i < 37 → get_or ldh i 0 < get_or ldh (suc i) 0
ldh_rising i h = rises_at 0 ldh ldh_rises i (omega (arith, ldh_length))

-- ---- which octets it has

-- the hyphen, the digits and the lower-case letters
abbrev pub hyphen_digit_letter : ℕ → Bool
hyphen_digit_letter o = cond (ltb o 48) (eqb o 45) (cond (ltb o 97) (leb o 57) (leb o 122))

abbrev same : Bool → Bool → Bool
same true b = b
same false true = false
same false false = true

same_eq : (a b : Bool) → T (same a b) → a ≡ b
same_eq true true h = refl
same_eq true false h = absurd h
same_eq false true h = absurd h
same_eq false false h = refl

-- two tests, compared at each octet below n
module _ (f g : ℕ → Bool) where
  abbrev pub agreeing : ℕ → Bool
  agreeing zero = true
  agreeing (suc n) = cond (same (f n) (g n)) (agreeing n) false

  agreeing_at : (n : ℕ) → T (agreeing n) → (o : ℕ) → o < n → f o ≡ g o
  agreeing_at zero h o less = absurd (omega arith)
  agreeing_at (suc n) h o less = go (same (f n) (g n)) (same_eq (f n) (g n)) h (λ k. agreeing_at n k o) (eqb o n) refl
    where
      go : (t : Bool) → (T t → f n ≡ g n) → T (cond t (agreeing n) false) → (T (agreeing n) → o < n → f o ≡ g o) → (u : Bool) → eqb o n ≡ u
          → f o ≡ g o
      go false e k rec u q = absurd k
      go true e k rec true q = rw (eqb-true o n q) (e tt)
      go true e k rec false q = rec k (omega (arith, eqb-false o n q))

ldh_agrees : T (agreeing (λ o. among o ldh) hyphen_digit_letter 256)
unfolding among ldh
ldh_agrees = tt

pub ldh_tests : (o : ℕ) → o < 256 → among o ldh ≡ hyphen_digit_letter o
ldh_tests = agreeing_at (λ o. among o ldh) hyphen_digit_letter 256 ldh_agrees

-- and of those that fold to one of it, which are upper-case letters too
abbrev pub folds_to_ldh : ℕ → Bool
folds_to_ldh o = ((eqb o 45 || (leb 48 o && leb o 57)) || (leb 65 o && leb o 90)) || (leb 97 o && leb o 122)

folds_agrees : T (agreeing folds_to_ldh (λ o. among (lower_of o) ldh) 256)
unfolding among ldh
folds_agrees = tt

pub folds_tests : (o : ℕ) → o < 256 → folds_to_ldh o ≡ among (lower_of o) ldh
folds_tests = agreeing_at folds_to_ldh (λ o. among (lower_of o) ldh) 256 folds_agrees

pub ldh_octets : (o : ℕ) → o < 256 → T (among o ldh) ↔ ((o ≡ 45) ⊎ ((48 ≤ o) × (o ≤ 57)) ⊎ ((97 ≤ o) × (o ≤ 122)))
ldh_octets o h = (λ t. to (ltb o 48) refl (ltb o 97) refl (rw (ldh_tests o h) at t), λ c. rw (ldh_tests o h) (back c))
  where
    to : (a : Bool) → ltb o 48 ≡ a → (b : Bool) → ltb o 97 ≡ b → T (cond a (eqb o 45) (cond b (leb o 57) (leb o 122)))
        → (o ≡ 45) ⊎ ((48 ≤ o) × (o ≤ 57)) ⊎ ((97 ≤ o) × (o ≤ 122))
    to true ea b eb t = inl (eqb→eq o 45 t)
    to false ea true eb t = inr (inl (ltb-false o 48 ea, leb→le o 57 t))
    to false ea false eb t = inr (inr (ltb-false o 97 eb, leb→le o 122 t))

    back : (o ≡ 45) ⊎ ((48 ≤ o) × (o ≤ 57)) ⊎ ((97 ≤ o) × (o ≤ 122)) → T (hyphen_digit_letter o)
    back (inl e) = rw e tt
    back (inr (inl r)) = rw (le-ltb o 48 r.0, lt-ltb o 97 (omega (arith, r.1))) (le→leb o 57 r.1)
    back (inr (inr r)) = rw (le-ltb o 48 (omega (arith, r.0)), le-ltb o 97 r.0) (le→leb o 122 r.1)

-- ---- the steps

-- what holds of the hyphen, of the digits and of the letters holds of every octet of the alphabet
ldh_each : (P : ℕ → Type 0) → P 45 → ((p : ℕ) → 48 ≤ p → p ≤ 57 → P p) → ((p : ℕ) → 97 ≤ p → p ≤ 122 → P p)
    → (p : ℕ) → Octet (allowed Ldh) p → P p
ldh_each P hyphen digit letter p k = go ((ldh_octets p k.0).0 k.1)
  where
    go : (p ≡ 45) ⊎ ((48 ≤ p) × (p ≤ 57)) ⊎ ((97 ≤ p) × (p ≤ 122)) → P p
    go (inl e) = rw e hyphen
    go (inr (inl h)) = digit p h.0 h.1
    go (inr (inr h)) = letter p h.0 h.1

ldh_bounds : (p : ℕ) → Octet (allowed Ldh) p → (45 ≤ p) × (p ≤ 122)
ldh_bounds =
    ldh_each (λ p. (45 ≤ p) × (p ≤ 122)) (omega arith, omega arith) (λ p a b. (omega arith, omega arith))
    (λ p a b. (omega arith, omega arith))

pub hyphen_octet : Octet (allowed Ldh) 45
unfolding among ldh
hyphen_octet = (omega arith, tt)

pub digit_octet : (o : ℕ) → 48 ≤ o → o ≤ 57 → Octet (allowed Ldh) o
digit_octet o a b = let h : o < 256 = omega arith in (h, (ldh_octets o h).1 (inr (inl (a, b))))

pub letter_octet : (o : ℕ) → 97 ≤ o → o ≤ 122 → Octet (allowed Ldh) o
letter_octet o a b = let h : o < 256 = omega arith in (h, (ldh_octets o h).1 (inr (inr (a, b))))

pub least_ldh : least (allowed Ldh) ≡ 45
unfolding least
least_ldh = ap or_zero (from_some (allowed Ldh) 0 45 (omega arith) hyphen_octet (λ p a k. (ldh_bounds p k).0))

pub greatest_ldh : greatest (allowed Ldh) ≡ 122
unfolding greatest
greatest_ldh =
    ap or_zero
    (below_some (allowed Ldh) 256 122 (omega arith) (letter_octet 122 (omega arith) (omega arith)).1 (λ p a k. (ldh_bounds p (a, k)).1))

module _ (o r : ℕ) (octet : Octet (allowed Ldh) r) where
  -- r is above o, and no octet of the alphabet is between them
  pub ldh_next : o < r → (o < 45 → r ≤ 45) → ((p : ℕ) → 48 ≤ p → p ≤ 57 → o < p → r ≤ p) → ((p : ℕ) → 97 ≤ p → p ≤ 122 → o < p → r ≤ p)
      → r ≡ or_this (from (allowed Ldh) (suc o)) o
  ldh_next h hyphen digit letter =
      rw (from_some (allowed Ldh) (suc o) r (omega arith) octet
      (λ p a k. ldh_each (λ q. o < q → r ≤ q) hyphen digit letter p k (omega arith)))

  -- or below it
  pub ldh_previous : o < 256 → r < o → (45 < o → 45 ≤ r) → ((p : ℕ) → 48 ≤ p → p ≤ 57 → p < o → p ≤ r)
      → ((p : ℕ) → 97 ≤ p → p ≤ 122 → p < o → p ≤ r) → r ≡ or_this (below (allowed Ldh) o) o
  ldh_previous small h hyphen digit letter =
      rw (below_some (allowed Ldh) o r h octet.1 (λ p a k. ldh_each (λ q. q < o → q ≤ r) hyphen digit letter p (omega arith, k) a))

pub ldh_next_end : (o : ℕ) → 122 ≤ o → o ≡ or_this (from (allowed Ldh) (suc o)) o
ldh_next_end o h =
    rw (min_unique (λ p. (suc o ≤ p) × Octet (allowed Ldh) p) (from (allowed Ldh) (suc o)) none (from_law (allowed Ldh) (suc o))
    (λ p k. omega (arith, (ldh_bounds p k.1).1)))

pub ldh_previous_end : (o : ℕ) → o ≤ 45 → o ≡ or_this (below (allowed Ldh) o) o
ldh_previous_end o h =
    rw (max_unique (λ p. (p < o) × T (allowed Ldh p)) (below (allowed Ldh) o) none (below_law (allowed Ldh) o)
    (λ p k. omega (arith, (ldh_bounds p (omega (arith, k.0), k.1)).0)))
