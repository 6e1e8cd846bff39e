-- `is_special` meets its contract: its eight tests are the definition's, one by one.
use mathlib.Core.Path.{refl}
use Rattle.text.proofs.character.is_special.Goals as goal

pub returns : goal.returns
returns c = refl
