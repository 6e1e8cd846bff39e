-- `told` meets its contract: each case of what was written is the case of a denial that says the same.
use mathlib.Core.Path.{sym, ap}
use Rattle.name.specs.Answer.{said}
use Rattle.denial.proofs.told.Goals as goal

pub returns-in-Ok : goal.returns-in-Ok
returns-in-Ok c = ap said (sym c.in-Ok.is)

pub returns-in-Err : goal.returns-in-Err
returns-in-Err c = ap said (sym c.in-Err.is)
