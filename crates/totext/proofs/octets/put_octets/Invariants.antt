-- `put_octets` meets its contract: the octets before the i-th are written, and the next is written behind them.
use Rattle.totext.proofs.PutOctets.{Putting}
use Rattle.totext.proofs.octets.put_octets.Given as goal

abbrev pub invariant-loop-i : goal.invariant-loop-i
invariant-loop-i l = Putting l.initial.space l.at l.name l.from l.n l.space l.end l.i
