-- `compare` meets its contract: a name that is broken is refused as its marking tells; of two whole names the labels decide.
use mathlib.Core.Path.{◌∙◌}
use mir.Facts.{to_z-of_z}
use mir.Syntax.{w16}
use Rattle.name.proofs.Marking.{not_marked, marked_whole, marked_starts}
use Rattle.order.proofs.Answers.{first_broken, second_broken, both_whole}
use Rattle.order.proofs.compare.Goals as goal

pub from_right-requires : goal.from_right-requires
from_right-requires c = search (marked_starts)

pub returns-in-Err : goal.returns-in-Err
returns-in-Err c = search (first_broken, not_marked)

pub returns-in-Err-y : goal.returns-in-Err-y
returns-in-Err-y c = search (second_broken, marked_whole, not_marked)

pub returns-in-Ok-y : goal.returns-in-Ok-y
returns-in-Ok-y c =
    let e = to_z-of_z {w = w16} (record { sfits = c.from_right.type_inv }) ∙ c.from_right.ensures in search (both_whole, marked_whole)
