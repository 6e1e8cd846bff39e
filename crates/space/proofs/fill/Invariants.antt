-- `fill` meets its contract: the octets before the i-th are written.
use lib.ListN.{replicate}
use Rattle.space.proofs.Putting.{Copied}
use Rattle.space.proofs.fill.Given as goal

abbrev pub invariant-loop-i : goal.invariant-loop-i
invariant-loop-i l = Copied l.initial.d l.at (replicate l.n l.octet) l.n l.d l.i
