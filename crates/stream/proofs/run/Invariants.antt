-- Each turn leaves less than a question at the front of the input, so that the next has room.
use Rattle.std.proofs.Common.{◌<◌}
use Rattle.stream.proofs.run.Given as goal

abbrev pub invariant-loop : goal.invariant-loop
invariant-loop g l = l.held < 1214
