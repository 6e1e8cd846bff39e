-- `fold_long` meets its contract: before each turn the first i octets are put, and two blocks put more (`folding_blocks`), at last all.
use Rattle.space.proofs.FoldedBlocks.{Folding}
use Prim.Native.Nat.{◌-◌, ◌≤◌}
use mathlib.Core.Path.{◌≡◌}
use Rattle.space.proofs.folding.fold_long.Given as goal

abbrev pub invariant-loop-i : goal.invariant-loop-i
invariant-loop-i l = (l.last ≡ l.n - 16) × (l.i ≤ l.n) × Folding l.initial.d l.at l.s l.from l.n l.d l.i

abbrev pub decreases-loop-i : goal.decreases-loop-i
decreases-loop-i l = l.n - l.i
