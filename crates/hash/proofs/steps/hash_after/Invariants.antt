-- Octets are rewritten from the right, and what is carried into an octet is 1 exactly where the sum behind it wrapped.
use Rattle.hash.specs.Ring.{carried, after}
use Rattle.hash.proofs.Carrying.{Handing}
use Rattle.hash.proofs.steps.hash_after.Given as goal

abbrev pub invariant-loop-i : goal.invariant-loop-i
invariant-loop-i l = Handing after carried l.initial.octets l.octets l.carry l.i
