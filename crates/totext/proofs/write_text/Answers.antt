-- `write_text` meets its contract: the text stands there at once, or is measured and written to a space that is as it was (`AtOnce`).
use Rattle.totext.proofs.AtOnce.{at_once_next}
use Rattle.totext.proofs.write_text.Goals as goal

pub returns-then-n-gt0 : goal.returns-then-n-gt0
returns-then-n-gt0 c = c.put_roomy-n.ensures.text c.if-n-gt0.true

pub returns : goal.returns
returns c = at_once_next c.put_roomy-n.ensures c.if-n-gt0.false c.write_measured.ensures
