-- `alphabet_of` meets its contract: a number that is not 0 is one more than another.
use mathlib.Core.Path.{◌≡◌, refl}
use Prim.Native.Nat.{ℕ, zero, suc}
use Rattle.alphabet.specs.declared.Alphabet.TheVariants.{Ldh}
use Rattle.qorshudan.specs.Arguments.{alphabet_of}
use Rattle.qorshudan.proofs.neighbours.alphabet_of.Goals as goal

other : (n : ℕ) → (n ≡ 0 → ⊥) → Ldh ≡ alphabet_of n
other zero h = absurd (h refl)
other (suc n) h = refl

pub returns : goal.returns
returns c = other _ c.if-number-eq0.false
