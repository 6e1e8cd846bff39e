-- `holding` meets its contract: the octets are copied to the front of an array of 0s, and number and places are those of their labels.
use mathlib.Core.Path.{◌∙◌}
use native.Mathlib.Omega.{arith}
use Rattle.space.proofs.Putting.{put_overlay}
use Rattle.name.proofs.Answers.{holds}
use Rattle.name.proofs.Name.holding.Goals as goal

pub returns : goal.returns
returns c =
    holds c.args.octets.now _ _ _ (c.put.ensures ∙ put_overlay _ _ (omega arith)) c.requires.labels_value.0 c.requires.labels_value.1
