-- `put_octets` meets its contract: the octets from the i-th on are written, and the next is written before them.
use Rattle.tokey.proofs.PutOctets.{Putting}
use Rattle.tokey.proofs.put_octets.Given as goal

abbrev pub invariant-loop-i : goal.invariant-loop-i
invariant-loop-i l = Putting l.initial.space l.end l.name l.from l.n l.space l.at l.i
