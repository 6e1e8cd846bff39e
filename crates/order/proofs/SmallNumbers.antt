-- Signed numbers of 16 bits: a small number and its negation.
use mathlib.Core.Path.{◌≡◌, ap, ◌∙◌}
use Prim.Native.Nat.{ℕ, suc, ◌+◌, ◌≤◌}
use native.Mathlib.Numerals.{add-one}
use native.Mathlib.Omega.{arith}
use lib.IntN.{pos, negsuc, ◌-ℤ◌, +ℤ_idl}
use mir.Syntax.{w16}
use mir.Val.{SFits, to_z}
use mir.Facts.{to_z_pos}

pub small : (k : ℕ) → k ≤ 126 → to_z w16 (k + 1) ≡ pos (suc k)
small k h = to_z_pos w16 (omega arith) ∙ ap pos (add-one k)

-- the machine negates by taking from 0
pub neg_small : (k : ℕ) → k ≤ 126 → pos 0 -ℤ to_z w16 (k + 1) ≡ negsuc k
neg_small k h = rw (small k h) (+ℤ_idl (negsuc k))

pub negsuc_fits : (k : ℕ) → k ≤ 126 → SFits w16 (negsuc k)
negsuc_fits k h = record { sfits = omega arith }
