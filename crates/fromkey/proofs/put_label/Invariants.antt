-- Octet by octet the label is copied out of its code (`Putting`).
use Rattle.fromkey.proofs.ReadLabels.{Putting}
use Rattle.fromkey.proofs.put_label.Given as goal

abbrev pub invariant-loop-i : goal.invariant-loop-i
invariant-loop-i l = Putting l.key l.initial.d l.from l.n l.at l.d l.p l.i
