-- `read_way` meets its contract: the way's field and its octet decide (`QuestionSteps`).
use Prim.Native.Nat.{◌+◌}
use mathlib.Core.Path.{◌≡◌}
use native.Mathlib.Omega.{arith}
use borrow.Author.Rules.{rules}
use lib.ListN.{get_or}
use Rattle.std.specs.Prelude.{None}
use Rattle.std.proofs.lemmas.Result.{err_from_is_err_and}
use Rattle.question.specs.declared.NotAsked.TheVariants.{Wrong}
use Rattle.question.specs.Way.{way_of}
use Rattle.question.proofs.QuestionSteps.{field_there, stops, no_way, whole}
use Rattle.question.proofs.reading.read_way.Goals as goal

pub returns-in_err-read_field : goal.returns-in_err-read_field
returns-in_err-read_field c = search (rules, stops)

pub bounds-input-after : goal.bounds-input-after
bounds-input-after c = let there = field_there c.in_ok-read_field.ensures in
    omega (arith, there.within, there.some)

pub returns-in_err-way : goal.returns-in_err-way
returns-in_err-way c =
    let none : None ≡ way_of (get_or c.args.input.now (c.args.at + 10 + c.args.apex + c.args.name + 3) 0) = grind arith in
    let p = err_from_is_err_and c.from_residual-in_err-way.result c.from_residual-in_err-way.ensures.1 in
    let w : c.in_err-way.field-0.0 ≡ Wrong = grind arith in
    rw (p.1, p.2, w) (no_way _ _ _ _ _ _ (field_there c.in_ok-read_field.ensures) none)

pub returns : goal.returns
returns c = whole _ _ _ _ _ _ (field_there c.in_ok-read_field.ensures) (grind arith)
