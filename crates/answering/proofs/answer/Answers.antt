-- What the operation said decides: its name behind the heads, its number alone, or no room.
use mathlib.Core.Path.{ap}
use native.Mathlib.Omega.{arith}
use Rattle.space.specs.Octets.{Octets}
use Rattle.name.specs.Answer.{said}
use Rattle.name.proofs.Answers.{fills_said}
use Rattle.name.proofs.Labels.{octets_each}
use Rattle.question.specs.Question.{asking}
use Rattle.answering.proofs.AnswerSteps.{name_small, answer_headed, answer_refused}
use Rattle.answering.proofs.answer.Goals as goal

pub put_heads-requires : goal.put_heads-requires
put_heads-requires c = let apex_octets : Octets (let a = c.args in
    asking a.apex.now a.limit a.name.now a.way).apex = octets_each (let a = c.args in
    asking a.apex.now a.limit a.name.now a.way).apex (λ i. omega (arith, c.type_inv.apex i)) in
    let name_octets : Octets (let a = c.args in
    asking a.apex.now a.limit a.name.now a.way).name = octets_each (let a = c.args in
    asking a.apex.now a.limit a.name.now a.way).name (λ i. omega (arith, c.type_inv.name i)) in
    name_small (let a = c.args in
    asking a.apex.now a.limit a.name.now a.way) c.args.space.now _ c.least-from.ensures _ _
    (fills_said c.operate-outcome.ensures (ap said c.in-Ok.is)) apex_octets name_octets

pub returns-in-Err : goal.returns-in-Err
returns-in-Err c = answer_refused (let a = c.args in
    asking a.apex.now a.limit a.name.now a.way) c.args.space.now _ c.least-from.ensures _ c.in-Err.why
    (fills_said c.operate-outcome.ensures (ap said c.in-Err.is)) _ _ c.put_refusal.ensures

pub returns-in-Ok : goal.returns-in-Ok
returns-in-Ok c = let apex_octets : Octets (let a = c.args in
    asking a.apex.now a.limit a.name.now a.way).apex = octets_each (let a = c.args in
    asking a.apex.now a.limit a.name.now a.way).apex (λ i. omega (arith, c.type_inv.apex i)) in
    let name_octets : Octets (let a = c.args in
    asking a.apex.now a.limit a.name.now a.way).name = octets_each (let a = c.args in
    asking a.apex.now a.limit a.name.now a.way).name (λ i. omega (arith, c.type_inv.name i)) in
    answer_headed (let a = c.args in
    asking a.apex.now a.limit a.name.now a.way) c.args.space.now _ c.least-from.ensures _ _
    (fills_said c.operate-outcome.ensures (ap said c.in-Ok.is)) apex_octets name_octets _ _ c.put_heads.ensures
