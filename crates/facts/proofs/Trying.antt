-- What holds of each number below a bound is found by trying them all: a test that computes over all of them (`every`), and a law that
-- turns it into the fact of each (`every_one`).
use mathlib.Core.Path.{◌≡◌, refl, sym, ◌∙◌}
use mathlib.Core.Bool.{Bool, true, false, ◌&&◌, true≢false}
use Prim.Native.Nat.{ℕ, zero, suc, ◌<◌}
use native.Mathlib.Omega.{arith}
use borrow.Author.Tests.{eqb-true, eq-eqb}
use lib.Dec.{eqb}
use Rattle.facts.proofs.Booleans.{both_true}

abbrev pub every : (ℕ → Bool) → ℕ → Bool
every test zero = true
every test (suc n) = test n && every test n

pub every_one : (test : ℕ → Bool) (n : ℕ) → every test n ≡ true → (i : ℕ) → i < n → test i ≡ true
every_one test zero all i h = absurd (omega arith)
every_one test (suc n) all i h = last (eqb i n) refl (λ less. every_one test n (both_true (test n) (every test n) all).1 i less)
  where
    other : eqb i n ≡ false → i ≡ n → ⊥
    other e s = true≢false (sym (eq-eqb i n s) ∙ e)

    last : (b : Bool) → eqb i n ≡ b → (i < n → test i ≡ true) → test i ≡ true
    last true e f = rw (eqb-true i n e) (both_true (test n) (every test n) all).0
    last false e f = f (omega (arith, other e))
