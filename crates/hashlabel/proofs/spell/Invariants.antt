-- Characters are copied over the digits from a table, and a digit that is read is not written over yet.
use Rattle.hashlabel.proofs.Spelling.{Spelled}
use Rattle.hashlabel.proofs.spell.Given as goal

abbrev pub invariant-loop-i : goal.invariant-loop-i
invariant-loop-i l = Spelled l.initial.d 32 l.d l.i
