-- `with_digit` meets its contract: each way out is a case of what stands at the place.
use native.Mathlib.Omega.{arith}
use mathlib.Core.Path.{sym, ◌∙◌}
use lib.ListN.{get_or}
use Rattle.fromtext.proofs.Escapes.{number_none, number_no_digit, number_above, number_is, digit_low, digit_high}
use Rattle.fromtext.proofs.with_digit.Goals as goal

pub returns-then-text-p : goal.returns-then-text-p
returns-then-text-p c = search number_none

pub returns-then-not-is_digit : goal.returns-then-not-is_digit
returns-then-not-is_digit c = let d = sym c.is_digit.ensures ∙ c.if-not-is_digit.true in
    search number_no_digit

pub overflow_sub-n : goal.overflow_sub-n
overflow_sub-n c = digit_low _ (sym c.is_digit.ensures ∙ c.if-not-is_digit.false)

pub overflow_cast-n : goal.overflow_cast-n
overflow_cast-n c = omega (arith, digit_high (get_or c.args.text.now c.args.p 0) (sym c.is_digit.ensures ∙ c.if-not-is_digit.false))

pub overflow_add-n : goal.overflow_add-n
overflow_add-n c = omega (arith, digit_high (get_or c.args.text.now c.args.p 0) (sym c.is_digit.ensures ∙ c.if-not-is_digit.false))

pub returns-then-most-n : goal.returns-then-most-n
returns-then-most-n c = let d = sym c.is_digit.ensures ∙ c.if-not-is_digit.false in search number_above

pub returns : goal.returns
returns c = let d = sym c.is_digit.ensures ∙ c.if-not-is_digit.false in search number_is
