-- `after_backslash` meets its contract: the text's end, a digit, another character of a text, or one of none.
use mathlib.Core.Path.{sym, ◌∙◌}
use native.Mathlib.Omega.{arith}
use Rattle.fromtext.proofs.Escapes.{nothing_follows, character_ends, none_follows}
use Rattle.fromtext.proofs.after_backslash.Goals as goal

pub returns-then-p-text : goal.returns-then-p-text
returns-then-p-text c = search nothing_follows

pub number-requires : goal.number-requires
number-requires c = (omega arith, sym c.is_digit.ensures ∙ c.if-is_digit.true)

pub returns-then-is_digit : goal.returns-then-is_digit
returns-then-is_digit c = c.number.ensures

pub returns-then-is_printable : goal.returns-then-is_printable
returns-then-is_printable c = character_ends _ _ (omega arith) (sym c.is_digit.ensures ∙ c.if-is_digit.false)
    (sym c.is_printable.ensures ∙ c.if-is_printable.true)

pub returns : goal.returns
returns c = none_follows _ _ (omega arith) (sym c.is_digit.ensures ∙ c.if-is_digit.false)
    (sym c.is_printable.ensures ∙ c.if-is_printable.false)
