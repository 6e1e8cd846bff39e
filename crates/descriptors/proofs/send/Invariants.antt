-- No more octets are written than there are.
use Rattle.std.proofs.Common.{◌≤◌, length}
use Rattle.descriptors.proofs.send.Given as goal

abbrev pub invariant-loop : goal.invariant-loop
invariant-loop g l = l.done ≤ length l.octets
