-- `read_size` meets its contract: each test is the definition's, on the octets from the place on (`FieldSteps`).
use native.Mathlib.Omega.{arith}
use Prim.Native.Nat.{◌+◌}
use Rattle.question.proofs.FieldSteps.{no_high, high_large, no_low, too_few, too_many, size_there}
use Rattle.question.proofs.reading.read_size.Goals as goal

pub returns-then-input-at : goal.returns-then-input-at
returns-then-input-at c = search no_high

pub overflow_mul-high : goal.overflow_mul-high
overflow_mul-high c = omega (arith, c.type_inv.input c.args.at)

pub returns-then-most-high : goal.returns-then-most-high
returns-then-most-high c = search (high_large, arith)

pub returns-then-input-at-lt2 : goal.returns-then-input-at-lt2
returns-then-input-at-lt2 c = no_low _ _ _ _ (omega arith) c.if-most-high.false (omega arith)

pub overflow_add-n-2 : goal.overflow_add-n-2
overflow_add-n-2 c = let known = c.type_inv.input in
    omega (arith, known c.args.at, known (c.args.at + 1))

pub returns-then-n-least : goal.returns-then-n-least
returns-then-n-least c = too_few _ _ _ _ (omega arith) c.if-n-least.true

pub returns-then-most-n : goal.returns-then-most-n
returns-then-most-n c = too_many _ _ _ _ (omega arith) c.if-most-n.true

pub returns : goal.returns
returns c = size_there _ _ _ _ (omega arith) c.if-n-least.false c.if-most-n.false
