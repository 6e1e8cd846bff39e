-- `put_refusal` meets its contract: 9 writes nothing, and any other number is written in its field.
use mathlib.Core.Path.{sym, ◌∙◌}
use Rattle.name.proofs.Answers.{fills_refusal}
use Rattle.answering.proofs.AnswerSteps.{front_nine, front_fills}
use Rattle.answering.proofs.put_refusal.Goals as goal

pub returns-then-told-eq9 : goal.returns-then-told-eq9
returns-then-told-eq9 c = fills_refusal (front_nine c.args.why (sym c.tell-told.ensures.number_is ∙ c.if-told-eq9.true))

pub returns : goal.returns
returns c = front_fills c.args.why c.tell-told.ensures.number_is c.if-told-eq9.false c.put_number.ensures
