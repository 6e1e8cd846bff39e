-- `read_question` meets its contract: an apex that is there leads on to the limit, and a field that is not decides (`QuestionSteps`).
use mathlib.Core.Path.{◌∙◌}
use native.Mathlib.Omega.{arith}
use borrow.Author.Rules.{rules}
use Rattle.question.proofs.QuestionSteps.{field_there, at_end_lem, no_apex, apex_read}
use Rattle.question.proofs.reading.read_question.Goals as goal

pub returns-then-input-at : goal.returns-then-input-at
returns-then-input-at c = search at_end_lem

pub returns-in_err-apex : goal.returns-in_err-apex
returns-in_err-apex c = search (rules, no_apex)

pub read_limit-requires : goal.read_limit-requires
read_limit-requires c = omega (arith, (field_there c.in_ok-apex.ensures).within)

pub returns : goal.returns
returns c = c.read_limit.ensures ∙ apex_read _ _ (omega arith) _ (field_there c.in_ok-apex.ensures)
