-- The sum grows by the ones of each octet, and with those of the octets that are left it is the sum of all (`Adding`).
use Rattle.fromtypes.proofs.Counts.{Adding}
use Rattle.fromtypes.proofs.counting.count_in.Given as goal

abbrev pub invariant-loop-i : goal.invariant-loop-i
invariant-loop-i l = Adding l.bitmap l.from l.n l.sum l.i
