-- `same_long` meets its contract: before each block `same` says whether the first i octets are the same, or all (`comparing_block`).
use Prim.Native.Nat.{◌-◌, min}
use mathlib.Core.Path.{◌≡◌}
use lib.ListN.{length}
use Rattle.space.proofs.SameBlocks.{Comparing}
use Rattle.space.proofs.sameness.same_long.Given as goal

abbrev pub invariant-loop-i : goal.invariant-loop-i
invariant-loop-i l = (l.n ≡ length l.t) × Comparing l.s l.p l.t 0 l.n l.same (min l.i l.n)

abbrev pub decreases-loop-i : goal.decreases-loop-i
decreases-loop-i l = l.n - l.i
