-- `put_plain` meets its contract: the length octets before the place are dots, and the next becomes one.
use native.Mathlib.Omega.{arith}
use Rattle.name.proofs.LabelSteps.{inside, stands}
use Rattle.text.proofs.TextSteps.{label_within}
use Rattle.totext.proofs.PutPlain.{dotting_none, dotting_place, dotting_next, dotting_all}
use Rattle.totext.proofs.plain.put_plain.Goals as goal

pub overflow_sub-name : goal.overflow_sub-name
overflow_sub-name c = omega (arith, inside (stands _ c.requires.0))

pub loop-p-init : goal.loop-p-init
loop-p-init c = dotting_none _ _ _ (omega (arith, inside (stands _ c.requires.0))) c.requires.1 c.put_folded.ensures c.requires.0

pub overflow_add-p : goal.overflow_add-p
overflow_add-p c = omega (arith, inside c.loop-p.invariant.standing)

pub overflow_add-space : goal.overflow_add-space
overflow_add-space c = omega (arith, label_within _ _ c.loop-p.invariant.standing (omega arith))

pub bounds-space-p : goal.bounds-space-p
bounds-space-p c = dotting_place c.loop-p.invariant (omega arith)

pub overflow_add-p-in-loop-p : goal.overflow_add-p-in-loop-p
overflow_add-p-in-loop-p c = omega (arith, label_within _ _ c.loop-p.invariant.standing (omega arith))

pub loop-p-preserved : goal.loop-p-preserved
loop-p-preserved c = dotting_next c.loop-p.invariant (omega arith)

pub returns : goal.returns
returns c = dotting_all _ _ _ (omega (arith, inside (stands _ c.requires.0))) c.requires.1 c.put_folded.ensures
    c.loop-p.invariant (omega arith)
