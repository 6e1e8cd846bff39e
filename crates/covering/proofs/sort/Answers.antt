-- `sort` meets its contract: the number of a comparison is below 0 where the first name sorts before the second (`compared_sorting`).
use Rattle.std.proofs.Common.{rules}
use mathlib.Core.Path.{refl}
use Rattle.covering.proofs.Sorted.{compared_sorting}
use Rattle.covering.proofs.sort.Goals as goal

pub returns : goal.returns
returns c = compared_sorting _ _ c.in_ok-number.number (search rules) _ refl
