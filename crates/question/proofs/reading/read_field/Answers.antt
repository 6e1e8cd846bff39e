-- `read_field` meets its contract: the tag, the size and the value are tested as the definition does (`FieldSteps`).
use native.Mathlib.Omega.{arith}
use borrow.Author.Rules.{rules}
use Rattle.question.proofs.FieldSteps.{size_is, no_octet, other_tag, no_size, no_value, value_there}
use Rattle.question.proofs.reading.read_field.Goals as goal

pub returns-then-input-at : goal.returns-then-input-at
returns-then-input-at c = search no_octet

pub returns-then-input-at-2 : goal.returns-then-input-at-2
returns-then-input-at-2 c = other_tag _ _ _ _ _ (omega arith) c.if-input-at-2.true

pub returns-in_err-n : goal.returns-in_err-n
returns-in_err-n c = search (rules, no_size)

pub overflow_sub-input-2 : goal.overflow_sub-input-2
overflow_sub-input-2 c = omega (arith, (size_is c.in_ok-n.ensures).within)

pub returns-then-input-at-3 : goal.returns-then-input-at-3
returns-then-input-at-3 c = no_value _ _ _ _ _ (omega arith) c.if-input-at-2.false c.in_ok-n.ensures (omega arith)

pub returns : goal.returns
returns c = value_there _ _ _ _ _ (omega arith) c.if-input-at-2.false c.in_ok-n.ensures (omega arith)
