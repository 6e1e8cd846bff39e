-- `copy_long` meets its contract: before each turn the first i octets are put, and two blocks put more (`copying_blocks`), at last all.
use mathlib.Core.Path.{◌≡◌}
use Prim.Native.Nat.{◌-◌, ◌≤◌}
use lib.ListN.{length}
use Rattle.space.proofs.CopiedBlocks.{Copying}
use Rattle.space.proofs.copying.copy_long.Given as goal

abbrev pub invariant-loop-i : goal.invariant-loop-i
invariant-loop-i l = (l.last ≡ length l.s - 16) × (l.i ≤ length l.s) × Copying l.initial.d l.at l.s l.d l.i

abbrev pub decreases-loop-i : goal.decreases-loop-i
decreases-loop-i l = length l.s - l.i
