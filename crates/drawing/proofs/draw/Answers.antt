-- `draw` meets its contract: what the checks refuse is refused, and a plan stands for the answer of the steps (`nearest_answer`).
use mathlib.Core.Path.{sym, ◌∙◌}
use native.Mathlib.Omega.{arith}
use Prim.Native.Nat.{◌<◌}
use Rattle.facts.proofs.Parts.{part_rest}
use Rattle.checks.specs.Private.Depths.{labels}
use Rattle.checks.specs.Private.LastAbove.{Places}
use Rattle.plan.proofs.Answering.{full_labels_few, nearest_asks, nearest_narrow, nearest_not_spelled, nearest_answer}
use Rattle.drawing.proofs.draw.Goals as goal

pub returns-then-at-eq-MAX_LEN : goal.returns-then-at-eq-MAX_LEN
returns-then-at-eq-MAX_LEN c =
    let placed : Places c.args.apex.now c.args.limit (labels c.args.depth) c.args.name.now c.place-at.result = let a = c.args in
    rw (part_rest a.apex.now 0, part_rest a.name.now 0) at c.place-at.ensures in
    placed.refuses (omega arith) _ ∙ c.why.ensures

pub overflow_add-apex : goal.overflow_add-apex
overflow_add-apex c =
    let placed : Places c.args.apex.now c.args.limit (labels c.args.depth) c.args.name.now c.place-at.result = let a = c.args in
    rw (part_rest a.apex.now 0, part_rest a.name.now 0) at c.place-at.ensures in
    let inside : c.place-at.result < 255 =
    let placed : Places c.args.apex.now c.args.limit (labels c.args.depth) c.args.name.now c.place-at.result = let a = c.args in
    rw (part_rest a.apex.now 0, part_rest a.name.now 0) at c.place-at.ensures in
    omega (arith, placed.most) in
    let w = placed.passes inside in let s = c in
    omega (arith, c.full_labels.ensures, full_labels_few s.args.depth, w.apex_fits, w.most)

pub returns-then-limit-apex : goal.returns-then-limit-apex
returns-then-limit-apex c =
    let placed : Places c.args.apex.now c.args.limit (labels c.args.depth) c.args.name.now c.place-at.result = let a = c.args in
    rw (part_rest a.apex.now 0, part_rest a.name.now 0) at c.place-at.ensures in
    let inside : c.place-at.result < 255 =
    let placed : Places c.args.apex.now c.args.limit (labels c.args.depth) c.args.name.now c.place-at.result = let a = c.args in
    rw (part_rest a.apex.now 0, part_rest a.name.now 0) at c.place-at.ensures in
    omega (arith, placed.most) in
    let a = c.args in
    nearest_narrow a.depth placed inside a.alphabet a.way
    (rw c.full_labels.ensures at c.if-limit-apex.true)

pub overflow_sub-cut : goal.overflow_sub-cut
overflow_sub-cut c =
    let placed : Places c.args.apex.now c.args.limit (labels c.args.depth) c.args.name.now c.place-at.result = let a = c.args in
    rw (part_rest a.apex.now 0, part_rest a.name.now 0) at c.place-at.ensures in
    let inside : c.place-at.result < 255 =
    let placed : Places c.args.apex.now c.args.limit (labels c.args.depth) c.args.name.now c.place-at.result = let a = c.args in
    rw (part_rest a.apex.now 0, part_rest a.name.now 0) at c.place-at.ensures in
    omega (arith, placed.most) in
    omega (arith, (placed.passes inside).length_apex)

pub all_spelled-requires : goal.all_spelled-requires
all_spelled-requires c =
    let placed : Places c.args.apex.now c.args.limit (labels c.args.depth) c.args.name.now c.place-at.result = let a = c.args in
    rw (part_rest a.apex.now 0, part_rest a.name.now 0) at c.place-at.ensures in
    let inside : c.place-at.result < 255 =
    let placed : Places c.args.apex.now c.args.limit (labels c.args.depth) c.args.name.now c.place-at.result = let a = c.args in
    rw (part_rest a.apex.now 0, part_rest a.name.now 0) at c.place-at.ensures in
    omega (arith, placed.most) in
    (placed.passes inside).boundary

pub plan-requires : goal.plan-requires
plan-requires c =
    let placed : Places c.args.apex.now c.args.limit (labels c.args.depth) c.args.name.now c.place-at.result = let a = c.args in
    rw (part_rest a.apex.now 0, part_rest a.name.now 0) at c.place-at.ensures in
    let inside : c.place-at.result < 255 =
    let placed : Places c.args.apex.now c.args.limit (labels c.args.depth) c.args.name.now c.place-at.result = let a = c.args in
    rw (part_rest a.apex.now 0, part_rest a.name.now 0) at c.place-at.ensures in
    omega (arith, placed.most) in
    let a = c.args in
    nearest_asks a.depth placed inside a.alphabet
    (λ i. omega (arith, c.type_inv.name i)) (sym c.if-all_spelled.true ∙ c.all_spelled.ensures)

pub returns-then-all_spelled : goal.returns-then-all_spelled
returns-then-all_spelled c =
    let placed : Places c.args.apex.now c.args.limit (labels c.args.depth) c.args.name.now c.place-at.result = let a = c.args in
    rw (part_rest a.apex.now 0, part_rest a.name.now 0) at c.place-at.ensures in
    let inside : c.place-at.result < 255 =
    let placed : Places c.args.apex.now c.args.limit (labels c.args.depth) c.args.name.now c.place-at.result = let a = c.args in
    rw (part_rest a.apex.now 0, part_rest a.name.now 0) at c.place-at.ensures in
    omega (arith, placed.most) in
    let a = c.args in (
      c.plan.ensures.feasible,
      nearest_answer a.depth placed inside a.alphabet a.way
          (rw c.full_labels.ensures at c.if-limit-apex.false) (sym c.if-all_spelled.true ∙ c.all_spelled.ensures) c.plan.ensures,
    )

pub returns : goal.returns
returns c = let placed : Places c.args.apex.now c.args.limit (labels c.args.depth) c.args.name.now c.place-at.result = let a = c.args in
    rw (part_rest a.apex.now 0, part_rest a.name.now 0) at c.place-at.ensures in
    let inside : c.place-at.result < 255 =
    let placed : Places c.args.apex.now c.args.limit (labels c.args.depth) c.args.name.now c.place-at.result = let a = c.args in
    rw (part_rest a.apex.now 0, part_rest a.name.now 0) at c.place-at.ensures in
    omega (arith, placed.most) in
    let a = c.args in
    nearest_not_spelled a.depth placed inside a.alphabet a.way
    (rw c.full_labels.ensures at c.if-limit-apex.false) (sym c.if-all_spelled.false ∙ c.all_spelled.ensures)
