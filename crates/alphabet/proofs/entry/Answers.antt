-- The table is the list of the definition, entry by entry.
use mathlib.Core.Path.{refl}
use Rattle.alphabet.specs.Alphabets.{ldh}
use Rattle.alphabet.proofs.entry.Goals as goal

pub returns : goal.returns
unfolding ldh
returns c = refl
