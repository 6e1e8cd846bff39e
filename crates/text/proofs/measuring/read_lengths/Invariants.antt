-- `read_lengths` meets its contract: reading has come to the place p, and if it finds the octets whole, `more` is right of those before it.
use Prim.Native.Nat.{◌-◌}
use lib.ListN.{length}
use Rattle.text.proofs.Measures.{Measuring}
use Rattle.text.proofs.measuring.read_lengths.Given as goal

abbrev pub invariant-loop-p : goal.invariant-loop-p
invariant-loop-p l = Measuring l.octets l.more l.p

abbrev pub decreases-loop-p : goal.decreases-loop-p
decreases-loop-p l = length l.octets - l.p
