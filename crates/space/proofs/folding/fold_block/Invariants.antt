-- `fold_block` meets its contract: the first k octets stand in the array (`Taken`), and then in the space (`Folding`).
use Prim.Native.Nat.{ℕ, ◌+◌, ◌≤◌}
use lib.ListN.{get_or}
use Rattle.space.specs.Fold.{lower_of}
use Rattle.space.proofs.Taken.{Taken}
use Rattle.space.proofs.FoldedBlocks.{Folding}
use Rattle.space.proofs.folding.fold_block.Given as goal

abbrev pub invariant-loop-k : goal.invariant-loop-k
invariant-loop-k l = (l.k ≤ l.w) × Taken (λ (j : ℕ). lower_of (get_or l.s (l.from + j) 0)) l.t l.k

abbrev pub invariant-loop-k-2 : goal.invariant-loop-k-2
invariant-loop-k-2 l = Taken (λ (j : ℕ). lower_of (get_or l.s (l.from + j) 0)) l.t l.w × Folding l.initial.d l.at l.s l.from l.w l.d l.k
