-- `write_question` meets its contract: a test that refuses is one of what a question can hold, and past all four it is written.
use mathlib.Core.Path.{◌≡◌}
use native.Mathlib.Omega.{arith}
use Rattle.std.specs.Prelude.{Some, None}
use Rattle.std.proofs.lemmas.Result.{err_from_is_err_and}
use Rattle.question.specs.declared.QuestionRefusal.TheVariants.{NoQuestion}
use Rattle.question.specs.Way.{way_of}
use Rattle.question.proofs.Writings.{apex_too_long, limit_too_large, name_too_long, no_such_way, way_written}
use Rattle.name.proofs.Answers.{fills_refusal}
use Rattle.toquestion.proofs.write_question.Goals as goal

pub returns-then-apex-gt-MOST_VALUE : goal.returns-then-apex-gt-MOST_VALUE
returns-then-apex-gt-MOST_VALUE c = fills_refusal (apex_too_long _ _ _ _ c.if-apex-gt-MOST_VALUE.true)

pub returns-then-limit-gt255 : goal.returns-then-limit-gt255
returns-then-limit-gt255 c = fills_refusal (limit_too_large _ _ _ _ c.if-apex-gt-MOST_VALUE.false (omega arith))

pub returns-then-name-gt-MOST_VALUE : goal.returns-then-name-gt-MOST_VALUE
returns-then-name-gt-MOST_VALUE c =
    fills_refusal (name_too_long _ _ _ _ c.if-apex-gt-MOST_VALUE.false (omega arith) c.if-name-gt-MOST_VALUE.true)

pub returns-in_err-way : goal.returns-in_err-way
returns-in_err-way c =
    let none : way_of c.args.way ≡ None = grind arith in
    let p = err_from_is_err_and c.from_residual.result c.from_residual.ensures.1 in
    let w : c.in_err-way.field-0.0 ≡ NoQuestion = grind arith in
    rw (p.1, p.2, w)
    (fills_refusal (no_such_way _ _ _ _ c.if-apex-gt-MOST_VALUE.false (omega arith) c.if-name-gt-MOST_VALUE.false none))

pub returns : goal.returns
returns c = let a = c.args in
    let some : way_of c.args.way ≡ Some c.in_ok-way.way = grind arith in
    rw (way_written a.apex.now a.limit a.name.now a.way c.if-apex-gt-MOST_VALUE.false (omega arith) c.if-name-gt-MOST_VALUE.false some)
    c.write_fields.ensures
