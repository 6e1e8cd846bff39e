-- `put` meets its contract: the octets before the i-th are copied.
use lib.ListN.{length}
use Rattle.space.proofs.Putting.{Copied}
use Rattle.space.proofs.put.Given as goal

abbrev pub invariant-loop-i : goal.invariant-loop-i
invariant-loop-i l = Copied l.initial.d l.at l.s (length l.s) l.d l.i
