-- `next_closer` meets its contract: the part from that place on is the next closer name.
use mathlib.Core.Path.{◌∙◌}
use Rattle.facts.proofs.Parts.{part_rest}
use Rattle.covering.proofs.next_closer.Goals as goal

pub returns : goal.returns
returns c = part_rest c.args.query.now c.closer_place-at.result ∙ c.closer_place-at.ensures.1
