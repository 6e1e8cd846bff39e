-- The digits of the first characters are copied.
use Rattle.space.proofs.Putting.{Copied}
use Rattle.hash.specs.Label.{label_digits}
use Rattle.hashlabel.proofs.unspell.Given as goal

abbrev pub invariant-loop-i : goal.invariant-loop-i
invariant-loop-i l = Copied l.initial.digits 0 (label_digits l.label) 32 l.digits l.i
