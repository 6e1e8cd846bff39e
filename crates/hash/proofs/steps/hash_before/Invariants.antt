-- Octets are rewritten from the right, and one is borrowed from an octet exactly where the one behind it was too small.
use Rattle.hash.specs.Ring.{borrowed, before}
use Rattle.hash.proofs.Carrying.{Handing}
use Rattle.hash.proofs.steps.hash_before.Given as goal

abbrev pub invariant-loop-i : goal.invariant-loop-i
invariant-loop-i l = Handing before borrowed l.initial.octets l.octets l.borrow l.i
