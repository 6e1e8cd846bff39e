-- `plan_len` meets its contract: the parts of a plan take so many octets (`planned_size`).
use native.Mathlib.Omega.{arith}
use Rattle.writing.proofs.PlanWriting.{label_most}
use Rattle.placing.proofs.plan_len.Goals as goal

pub overflow_add-result : goal.overflow_add-result
overflow_add-result c = let p = c.args.plan in
    omega (arith, c.label_len.ensures, label_most p.kept p.tail, c.requires.front_few, c.requires.label_few)

pub overflow_add-result-2 : goal.overflow_add-result-2
overflow_add-result-2 c = let p = c.args.plan in
    omega (arith, c.label_len.ensures, label_most p.kept p.tail, c.requires.front_few, c.requires.label_few)

pub returns : goal.returns
returns c = rw c.label_len.ensures
