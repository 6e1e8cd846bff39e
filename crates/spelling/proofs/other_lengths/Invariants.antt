-- `other_lengths` meets its contract: n of the length octets before the place p are others (`lengths_more`).
use Prim.Native.Nat.{◌-◌}
use Rattle.spelling.proofs.SpelledLabels.{Lengths}
use Rattle.spelling.proofs.other_lengths.Given as goal

abbrev pub invariant-loop-p : goal.invariant-loop-p
invariant-loop-p l = Lengths l.name l.cut l.n l.p

abbrev pub decreases-loop-p : goal.decreases-loop-p
decreases-loop-p l = l.cut - l.p
