-- `is_short` meets its contract: where it answers yes, each of its tests was passed.
use mathlib.Core.Path.{◌≡◌}
use mathlib.Core.Bool.{true, false}
use Prim.Native.Nat.{ℕ}
use native.Mathlib.Omega.{arith}
use borrow.Author.Tests.{leb-true}
use Rattle.writing.proofs.is_short.Goals as goal

never : false ≡ true → ⊥
never e = let z : ◌≡◌ {A = ℕ} 0 1 = cc in omega arith

pub returns-then-end-ge18 : goal.returns-then-end-ge18
returns-then-end-ge18 c e = record { single = omega arith; few = omega arith; long = omega arith; block = leb-true _ _ e }

pub returns-else-end-ge18 : goal.returns-else-end-ge18
returns-else-end-ge18 c e = absurd (never e)

pub returns-else-kept-lt16 : goal.returns-else-kept-lt16
returns-else-kept-lt16 c e = absurd (never e)

pub returns-else-front-tail-eq1 : goal.returns-else-front-tail-eq1
returns-else-front-tail-eq1 c e = absurd (never e)
