-- `measure` meets its contract: reading has come to the place p, and if it finds the octets whole, n length octets before it are 1.
use Prim.Native.Nat.{◌-◌}
use lib.ListN.{length}
use Rattle.tokey.proofs.Measures.{Measuring}
use Rattle.tokey.proofs.measure.Given as goal

abbrev pub invariant-loop-p : goal.invariant-loop-p
invariant-loop-p l = Measuring l.octets l.n l.p

abbrev pub decreases-loop-p : goal.decreases-loop-p
decreases-loop-p l = length l.octets - l.p
