-- `keep` meets its contract: the octets before the i-th are moved, and the i-th stands where it stood.
use Rattle.space.proofs.Putting.{Copied}
use Prim.Native.Nat.{◌+◌, ◌≤◌}
use lib.ListN.{length, take, drop}
use Rattle.space.proofs.keep.Given as goal

abbrev pub invariant-loop-i : goal.invariant-loop-i
invariant-loop-i l = (l.from + l.n ≤ length l.initial.d) × Copied l.initial.d 0 (take l.n (drop l.from l.initial.d)) l.n l.d l.i
