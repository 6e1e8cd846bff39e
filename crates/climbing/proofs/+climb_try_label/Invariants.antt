-- What `climb` and `try_label` find is the label that the climb changes (Planning). What falls is the number of labels above the apex: a
-- climb leaves one fewer, and a try comes after its climb.
use Rattle.std.proofs.Common.{◌+◌, ◌*◌, length}
use Rattle.checks.specs.Private.Climbs.{between}
use Rattle.climbing.proofs.+climb_try_label.Given as goal

abbrev pub decreases-climb : goal.decreases-climb
decreases-climb l = 2 * length (between l.name.now l.at l.cut) + 1

abbrev pub decreases-try_label : goal.decreases-try_label
decreases-try_label l = 2 * length (between l.name.now l.at l.cut)
