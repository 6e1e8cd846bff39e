-- `put_plain` meets its contract: the length octets before the place are dots, and the next becomes one.
use Prim.Native.Nat.{◌-◌}
use lib.ListN.{length}
use Rattle.totext.proofs.PutPlain.{Dotting}
use Rattle.totext.proofs.plain.put_plain.Given as goal

abbrev pub invariant-loop-p : goal.invariant-loop-p
invariant-loop-p l = Dotting l.name l.initial.space l.p l.space

abbrev pub decreases-loop-p : goal.decreases-loop-p
decreases-loop-p l = length l.name - l.p
