-- `parse_from` meets its contract: past the end the rest is empty.
use lib.ListN.{drop_of_length-le}
use Rattle.facts.proofs.Parts.{part_rest}
use Rattle.fromtext.proofs.parse_from.Goals as goal

pub returns-then-text-at : goal.returns-then-text-at
returns-then-text-at c = rw (drop_of_length-le c.args.text.now c.if-text-at.true)

pub returns : goal.returns
returns c = rw (part_rest c.args.text.now _) at c.parse.ensures
