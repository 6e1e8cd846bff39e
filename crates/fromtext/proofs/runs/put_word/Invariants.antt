-- `put_word` meets its contract: the characters before the k-th are copied.
use Prim.Native.Nat.{◌-◌, ◌≤◌}
use lib.ListN.{take, drop}
use Rattle.space.proofs.Putting.{Copied}
use Rattle.fromtext.proofs.runs.put_word.Given as goal

abbrev pub invariant-loop-k : goal.invariant-loop-k
invariant-loop-k l = (l.k ≤ 8) × Copied l.initial.octets l.at (take 8 (drop l.p l.text)) 8 l.octets l.k

abbrev pub decreases-loop-k : goal.decreases-loop-k
decreases-loop-k l = 8 - l.k
