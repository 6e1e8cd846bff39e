-- `read` meets its contract: what reading promises of the text from the reader's place on, with the place that it hands back.
use mathlib.Core.Path.{refl}
use Rattle.reader.proofs.read.Goals as goal

pub returns : goal.returns
returns c = record { text = refl; reads = c.read_text-read.ensures }
