-- `width` meets its contract: folding keeps the width, and each test tells the form.
use Rattle.text.proofs.Characters.{width_is_four, width_is_two, width_is_one}
use Rattle.text.proofs.character.width.Goals as goal

pub returns-then-not-is_printable : goal.returns-then-not-is_printable
returns-then-not-is_printable c = search width_is_four

pub returns-then-is_special : goal.returns-then-is_special
returns-then-is_special c = search width_is_two

pub returns : goal.returns
returns c = search width_is_one
