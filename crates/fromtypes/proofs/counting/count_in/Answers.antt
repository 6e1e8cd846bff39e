-- The sum grows by the ones of each octet, and with those of the octets that are left it is the sum of all (`Adding`).
use Prim.Native.Nat.{ℕ, ◌≤◌, ◌<◌}
use native.Mathlib.Omega.{arith}
use lib.Count.{ones, ones-le}
use Rattle.fromtypes.proofs.Counts.{adding_start, adding_more, adding_all}
use Rattle.fromtypes.proofs.counting.count_in.Goals as goal

ones_few : (o : ℕ) → o < 256 → ones o ≤ 8
ones_few o h = ones-le 8 o h

pub loop-i-init : goal.loop-i-init
loop-i-init c = adding_start _ _ _

pub overflow_cast-sum : goal.overflow_cast-sum
overflow_cast-sum c = omega (arith, ones_few)

pub overflow_add-sum-in-loop-i : goal.overflow_add-sum-in-loop-i
overflow_add-sum-in-loop-i c = omega (arith, ones_few)

pub loop-i-preserved : goal.loop-i-preserved
loop-i-preserved c = adding_more c.loop-i.invariant (omega arith) (omega arith) c.requires.1 (c.type_inv.bitmap _).fits

pub returns : goal.returns
returns c = adding_all c.loop-i.invariant (omega arith)
