-- The highest bit that is left gives the next type, and goes (`Bits`).
use Rattle.fromtypes.proofs.Listing.{Bits}
use Rattle.fromtypes.proofs.reading.put_bits.Given as goal

abbrev pub invariant-loop-left : goal.invariant-loop-left
invariant-loop-left l = Bits l.initial.types l.at l.octet l.first l.types l.left l.k

abbrev pub decreases-loop-left : goal.decreases-loop-left
decreases-loop-left l = l.left
