-- The types of each octet are written behind those of the octets before it (`Octeted`).
use Rattle.fromtypes.proofs.Listing.{Octeted}
use Rattle.fromtypes.proofs.reading.put_octets.Given as goal

abbrev pub invariant-loop-i : goal.invariant-loop-i
invariant-loop-i l = Octeted l.initial.types l.at l.bitmap l.from l.n l.first l.types l.k l.i
