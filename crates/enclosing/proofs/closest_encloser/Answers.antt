-- `closest_encloser` meets its contract: the part from that place on is the end of the name.
use mathlib.Core.Path.{sym, ◌∙◌}
use Rattle.facts.proofs.Parts.{part_rest}
use Rattle.encloser.specs.declared.Encloser.TheVariants.{OfOwner, OfNext}
use Rattle.encloser.proofs.Closest.{encloser_fits, found_octets}
use Rattle.enclosing.proofs.closest_encloser.Goals as goal

pub overflow_sub-at : goal.overflow_sub-at
overflow_sub-at c = encloser_fits _ _ _ (OfOwner _) (sym c.in-OfOwner.is ∙ c.encloser_of-found.ensures)

pub overflow_sub-at-in-OfNext : goal.overflow_sub-at-in-OfNext
overflow_sub-at-in-OfNext c = encloser_fits _ _ _ (OfNext _) (sym c.in-OfNext.is ∙ c.encloser_of-found.ensures)

pub returns-in-OfOwner : goal.returns-in-OfOwner
returns-in-OfOwner c = part_rest c.args.owner.now _ ∙ found_octets _ _ _ (OfOwner _) (sym c.in-OfOwner.is ∙ c.encloser_of-found.ensures)

pub returns-in-OfNext : goal.returns-in-OfNext
returns-in-OfNext c = part_rest c.args.next.now _ ∙ found_octets _ _ _ (OfNext _) (sym c.in-OfNext.is ∙ c.encloser_of-found.ensures)
