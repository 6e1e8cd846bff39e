-- `read_name` meets its contract: a name that is there leads on to the way, and a field that is not decides (`QuestionSteps`).
use mathlib.Core.Path.{◌∙◌}
use native.Mathlib.Omega.{arith}
use borrow.Author.Rules.{rules}
use Rattle.question.proofs.QuestionSteps.{field_there, stops, name_read_lem}
use Rattle.question.proofs.reading.read_name.Goals as goal

pub returns-in_err-name : goal.returns-in_err-name
returns-in_err-name c = search (rules, stops)

pub read_way-requires : goal.read_way-requires
read_way-requires c = omega (arith, (field_there c.in_ok-name.ensures).within)

pub returns : goal.returns
returns c = c.read_way.ensures ∙ name_read_lem _ _ _ _ _ (field_there c.in_ok-name.ensures)
