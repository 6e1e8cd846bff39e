-- The answer is that to the question whose parts lie in the input; without room the call stops.
use mathlib.Core.Path.{◌≡◌, refl, ap}
use Prim.Native.Nat.{◌+◌, ◌-◌}
use native.Mathlib.Omega.{arith}
use Rattle.name.specs.Answer.{answer, said, Fills}
use Rattle.answering.specs.Answering.{answered}
use Rattle.question.specs.Private.Asked.{question_in}
use Rattle.name.proofs.Answers.{fills_said}
use Rattle.answering.proofs.Outcomes.{answer_not_put}
use Rattle.answering.proofs.batch.reply.Goals as goal

pub returns-in-Ok : goal.returns-in-Ok
returns-in-Ok c =
    let replied : Fills (answer (answered (question_in c.args.input.now c.args.parts))) c.args.space.now (said c.answer-outcome.result)
    c.answer-outcome.new.space = let p = c.args.parts in
    let ea : p.apex.start + p.apex.len - p.apex.start ≡ p.apex.len = omega arith in
    let en : p.name.start + p.name.len - p.name.start ≡ p.name.len = omega arith in
    rw (ea, en) at c.answer-outcome.ensures in
    (refl, fills_said replied (ap said c.in-Ok.is))

pub returns-in-Err : goal.returns-in-Err
returns-in-Err c =
    let replied : Fills (answer (answered (question_in c.args.input.now c.args.parts))) c.args.space.now (said c.answer-outcome.result)
    c.answer-outcome.new.space = let p = c.args.parts in
    let ea : p.apex.start + p.apex.len - p.apex.start ≡ p.apex.len = omega arith in
    let en : p.name.start + p.name.len - p.name.start ≡ p.name.len = omega arith in
    rw (ea, en) at c.answer-outcome.ensures in
    answer_not_put (fills_said replied (ap said c.in-Err.is))
