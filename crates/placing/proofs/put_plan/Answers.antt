-- `put_plan` meets its contract: the part of the space from the index on was lent and has come back (`written_lent`).
use mathlib.Core.Path.{refl}
use native.Mathlib.Omega.{arith}
use Rattle.space.proofs.Written.{written_lent}
use Rattle.space.proofs.Putting.{written_put}
use Rattle.writing.proofs.PlanWriting.{planned_length}
use Rattle.placing.proofs.put_plan.Goals as goal

pub returns : goal.returns
returns c = written_put _ _ _ (written_lent _ _ _ c.put_first.ensures refl
    (omega (arith, c.requires.1, planned_length c.args.g c.requires.0)))
