-- `read_limit` meets its contract: a limit that is there leads on to the name, and a field that is not decides (`QuestionSteps`).
use mathlib.Core.Path.{◌∙◌}
use native.Mathlib.Omega.{arith}
use borrow.Author.Rules.{rules}
use Rattle.question.proofs.QuestionSteps.{field_there, stops, limit_read}
use Rattle.question.proofs.reading.read_limit.Goals as goal

pub returns-in_err-read_field : goal.returns-in_err-read_field
returns-in_err-read_field c = search (rules, stops)

pub bounds-input-at : goal.bounds-input-at
bounds-input-at c = let there = field_there c.in_ok-read_field.ensures in
    omega (arith, there.within, there.some)

pub read_name-requires : goal.read_name-requires
read_name-requires c = let there = field_there c.in_ok-read_field.ensures in
    omega (arith, there.within, there.some)

pub returns : goal.returns
returns c = c.read_name.ensures ∙ limit_read _ _ _ _ (field_there c.in_ok-read_field.ensures)
