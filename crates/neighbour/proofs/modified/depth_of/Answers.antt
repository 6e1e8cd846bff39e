-- `depth_of` meets its contract: a number that is none of 1, 2 and 3 is 0, or 4 or more.
use mathlib.Core.Path.{◌≡◌, refl}
use Prim.Native.Nat.{ℕ, zero, suc}
use Rattle.checks.specs.declared.Depth.TheVariants.{Other}
use Rattle.neighbour.specs.Private.Depths.{depth_of}
use Rattle.neighbour.proofs.modified.depth_of.Goals as goal

other : (n : ℕ) → (n ≡ 1 → ⊥) → (n ≡ 2 → ⊥) → (n ≡ 3 → ⊥) → Other ≡ depth_of n
other zero a b c = refl
other (suc zero) a b c = absurd (a refl)
other (suc (suc zero)) a b c = absurd (b refl)
other (suc (suc (suc zero))) a b c = absurd (c refl)
other (suc (suc (suc (suc n)))) a b c = refl

pub returns : goal.returns
returns c = other _ c.if-number-eq1.false c.if-number-eq2.false c.if-number-eq3.false
