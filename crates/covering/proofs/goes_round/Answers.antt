-- `goes_round` meets its contract: it goes round where the owner does not sort before the next name.
use mathlib.Core.Path.{sym, ◌∙◌}
use native.Mathlib.Omega.{arith}
use Rattle.covering.proofs.Sorted.{round_of}
use Rattle.covering.proofs.goes_round.Goals as goal

pub returns-in-Some : goal.returns-in-Some
returns-in-Some c = rw (sym c.sort.ensures ∙ c.in-Some.is, round_of c.in-Some.before) (grind arith)
