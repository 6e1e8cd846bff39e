-- What stands from the end on, with the labels that are left put before it, is the name (`Filling`).
use Rattle.fromkey.proofs.PutNames.{Filling}
use Rattle.fromkey.proofs.put_name.Given as goal

abbrev pub invariant-loop-p : goal.invariant-loop-p
invariant-loop-p l = Filling l.key l.sizes l.initial.d l.d l.end l.p l.k

abbrev pub decreases-loop-p : goal.decreases-loop-p
decreases-loop-p l = l.end
