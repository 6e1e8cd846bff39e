-- `stops` meets its contract: no difference and no sum wraps, and they make the marks.
use native.Mathlib.Omega.{arith}
use borrow.Author.Tests.{eq-eqb, ne_eqb}
use lib.Bits.{bit_and}
use Rattle.words.specs.Private.Word.{each_digit}
use Rattle.words.proofs.Marks.{xor_fits, below_fits, marks_found}
use Rattle.words.proofs.stops.Goals as goal

pub returns-then-w-ne0 : goal.returns-then-w-ne0
returns-then-w-ne0 c = rw (ne_eqb (bit_and c.args.w 0x8080808080808080) 0 c.if-w-ne0.true)

pub overflow_sub-dots : goal.overflow_sub-dots
unfolding each_digit
overflow_sub-dots c = xor_fits c.args.w (omega arith) c.if-w-ne0.false 46 (omega arith)

pub overflow_sub-backslashes : goal.overflow_sub-backslashes
unfolding each_digit
overflow_sub-backslashes c = xor_fits c.args.w (omega arith) c.if-w-ne0.false 92 (omega arith)

pub overflow_sub-below : goal.overflow_sub-below
overflow_sub-below c = below_fits c.args.w (omega arith) c.if-w-ne0.false

pub overflow_add-above : goal.overflow_add-above
overflow_add-above c = omega (arith, below_fits c.args.w (omega arith) c.if-w-ne0.false)

pub returns : goal.returns
unfolding each_digit
returns c = rw (eq-eqb (bit_and c.args.w 0x8080808080808080) 0 c.if-w-ne0.false)
    (marks_found c.args.w (omega arith) c.if-w-ne0.false)
