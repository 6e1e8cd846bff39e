-- `put_escaped` meets its contract: the labels passed are written up to `at`, and the text of the others goes on there.
use Prim.Native.Nat.{◌-◌}
use lib.ListN.{length}
use Rattle.totext.proofs.Roomy.{Roomy}
use Rattle.totext.proofs.escaped.put_escaped.Given as goal

abbrev pub invariant-loop-p : goal.invariant-loop-p
invariant-loop-p l = Roomy l.name l.initial.space l.p l.at l.space

abbrev pub decreases-loop-p : goal.decreases-loop-p
decreases-loop-p l = length l.name - l.p
