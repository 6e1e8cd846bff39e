-- What is no bitmap is refused where the check stops, and an empty one has no type; otherwise the first window has the smallest.
use mathlib.Core.Path.{sym}
use native.Mathlib.Omega.{arith}
use Rattle.asktypes.proofs.Extremities.{asked_none}
use Rattle.asktypes.proofs.extremes.smallest_type.Goals as goal

pub returns-then-bitmap-eq0 : goal.returns-then-bitmap-eq0
returns-then-bitmap-eq0 c = sym (asked_none _ _ c.in_ok-check.ensures.0 (omega arith))
