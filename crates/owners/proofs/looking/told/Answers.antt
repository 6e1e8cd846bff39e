-- `told` meets its contract: it tests the number that the comparison found.
use mathlib.Core.Path.{◌≡◌, sym, ap, ◌∙◌}
use mir.Syntax.{w16}
use mir.Val.{to_z, of_z}
use borrow.Author.Rules.{rules}
use Rattle.owners.specs.Private.Looks.{is_positive}
use Rattle.owners.proofs.looking.told.Goals as goal

pub returns-then-positive : goal.returns-then-positive
returns-then-positive c =
    let back : to_z w16 (of_z w16 c.in-Ok.number) ≡ c.in-Ok.number = search rules in
    rw (c.in-Ok.is, sym (ap is_positive back) ∙ sym c.positive.ensures ∙ c.if-positive.true)

pub returns-else-positive : goal.returns-else-positive
returns-else-positive c =
    let back : to_z w16 (of_z w16 c.in-Ok.number) ≡ c.in-Ok.number = search rules in
    rw (c.in-Ok.is, sym (ap is_positive back) ∙ sym c.positive.ensures ∙ c.if-positive.false)
