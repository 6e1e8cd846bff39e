-- Each call that answers something leaves fewer octets from the index on.
use Rattle.std.proofs.Common.{◌-◌, ◌≤◌, length}
use Rattle.stream.proofs.reply.Given as goal

abbrev pub invariant-loop-n : goal.invariant-loop-n
invariant-loop-n g l = l.at ≤ length l.octets

abbrev pub decreases-loop-n : goal.decreases-loop-n
decreases-loop-n g l = length l.octets - l.at
