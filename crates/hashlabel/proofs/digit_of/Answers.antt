-- Each range of octets in turn, of the octet in lower case.
use mathlib.Core.Path.{sym}
use Rattle.hash.proofs.Label.{digit_below, digit_digit, digit_amid, digit_letter, digit_above}
use Rattle.hashlabel.proofs.digit_of.Goals as goal

pub lower-c-requires : goal.lower-c-requires
lower-c-requires c = tt

pub returns-then-c-lt48 : goal.returns-then-c-lt48
returns-then-c-lt48 c = rw (← c.lower-c.ensures) (sym (digit_below _ c.if-c-lt48.true))

pub returns-then-c-le57 : goal.returns-then-c-le57
returns-then-c-le57 c = rw (← c.lower-c.ensures) (sym (digit_digit _ c.if-c-lt48.false c.if-c-le57.true))

pub returns-then-c-lt97 : goal.returns-then-c-lt97
returns-then-c-lt97 c = rw (← c.lower-c.ensures) (sym (digit_amid _ c.if-c-le57.false c.if-c-lt97.true))

pub returns-then-c-le118 : goal.returns-then-c-le118
returns-then-c-le118 c = rw (← c.lower-c.ensures) (sym (digit_letter _ c.if-c-lt97.false c.if-c-le118.true))

pub returns : goal.returns
returns c = rw (← c.lower-c.ensures) (sym (digit_above _ c.if-c-le118.false))
