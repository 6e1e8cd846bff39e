-- `look` meets its contract: what the comparison tells is what the owner tells (`told_look`).
use mathlib.Core.Path.{ap, ◌∙◌}
use Rattle.owners.specs.Private.Looks.{told_by}
use Rattle.owners.proofs.Seeing.{told_look}
use Rattle.owners.proofs.looking.look.Goals as goal

pub returns : goal.returns
returns c = c.told.ensures ∙ ap told_by c.compare.ensures ∙ told_look _ _
