-- `copy_block` meets its contract: the first k octets stand in the array (`Taken`), and then in the space (`Block`).
use mathlib.Core.Path.{◌≡◌}
use Prim.Native.Nat.{ℕ, ◌+◌, ◌≤◌}
use lib.ListN.{get_or}
use Rattle.space.proofs.Taken.{Taken}
use Rattle.space.proofs.CopiedBlocks.{Block}
use Rattle.space.proofs.copying.copy_block.Given as goal

abbrev pub invariant-loop-k : goal.invariant-loop-k
invariant-loop-k l = (l.k ≤ l.w) × Taken (λ (j : ℕ). get_or l.s (l.i + j) 0) l.t l.k

abbrev pub invariant-loop-k-2 : goal.invariant-loop-k-2
invariant-loop-k-2 l = (l.to ≡ l.at + l.i) × Block l.initial.d (l.at + l.i) l.s l.i l.w l.t l.d l.k
