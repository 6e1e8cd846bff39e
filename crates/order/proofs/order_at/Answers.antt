-- `order_at` meets its contract: the part behind a length octet is the label that begins there.
use mathlib.Core.Path.{◌∙◌}
use Rattle.name.proofs.LabelPlaces.{label_part}
use Rattle.order.proofs.order_at.Goals as goal

pub returns-then-s-p : goal.returns-then-s-p
returns-then-s-p c = c.long_order.ensures ∙ simp label_part

pub returns : goal.returns
returns c = c.label_order.ensures ∙ simp label_part
