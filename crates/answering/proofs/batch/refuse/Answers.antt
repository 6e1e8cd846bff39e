-- What the field with 13 leaves ends the batch or, without room, stops the call.
use mathlib.Core.Path.{ap}
use Rattle.name.specs.Answer.{said}
use Rattle.name.proofs.Answers.{fills_said}
use Rattle.answering.proofs.Advancing.{refuse_ends, refuse_stops}
use Rattle.answering.proofs.batch.refuse.Goals as goal

pub returns-in-Ok : goal.returns-in-Ok
returns-in-Ok c = refuse_ends _ _ _ (fills_said c.put_number-outcome.ensures (ap said c.in-Ok.is))

pub returns-in-Err : goal.returns-in-Err
returns-in-Err c = refuse_stops _ _ _ _ (fills_said c.put_number-outcome.ensures (ap said c.in-Err.is))
