-- The number so far is that of the digits read, and is small because all of them are few.
use mathlib.Core.Path.{◌≡◌}
use Prim.Native.Nat.{◌≤◌}
use lib.ListN.{take, drop}
use Rattle.hash.specs.Digits.{value}
use Rattle.hashlabel.proofs.groups.number.Given as goal

abbrev pub invariant-loop-k : goal.invariant-loop-k
invariant-loop-k l = (l.k ≤ l.count) × (l.v ≡ value l.base (take l.k (drop l.at l.s)))
