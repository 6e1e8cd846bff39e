-- `relate_names` meets its contract: the labels before the places where the names come together decide, or one of the names has none.
use native.Mathlib.Omega.{arith}
use Rattle.enclosing.proofs.Relating.{equal, before, after, label_fits, never_same, by_label_before, by_label_after}
use Rattle.enclosing.proofs.forks.relate_names.Goals as goal

pub returns-then-q-eq0 : goal.returns-then-q-eq0
returns-then-q-eq0 c = equal c.find_fork-f.ensures c.if-p-eq0.true c.if-q-eq0.true

pub returns-then-p-eq0 : goal.returns-then-p-eq0
returns-then-p-eq0 c = before c.find_fork-f.ensures c.if-p-eq0.true c.if-q-eq0.false

pub returns-then-q-eq0-2 : goal.returns-then-q-eq0-2
returns-then-q-eq0-2 c = after c.find_fork-f.ensures c.if-p-eq0.false c.if-q-eq0-2.true

pub overflow_add-a : goal.overflow_add-a
overflow_add-a c = let f = c.find_fork-f.ensures in omega (arith, label_fits f.first c.if-p-eq0.false, f.first.here.within)

pub overflow_add-b : goal.overflow_add-b
overflow_add-b c = let f = c.find_fork-f.ensures in omega (arith, label_fits f.second c.if-q-eq0-2.false, f.second.here.within)

pub slice_bounds-label_order-count : goal.slice_bounds-label_order-count
slice_bounds-label_order-count c = label_fits c.find_fork-f.ensures.first c.if-p-eq0.false

pub slice_bounds-label_order-count-2 : goal.slice_bounds-label_order-count-2
slice_bounds-label_order-count-2 c = label_fits c.find_fork-f.ensures.second c.if-q-eq0-2.false

pub returns-in-Less : goal.returns-in-Less
returns-in-Less c = by_label_before c.find_fork-f.ensures c.if-p-eq0.false c.if-q-eq0-2.false _
    c.label_order-order.ensures c.in-Less.is

pub returns-in-Equal : goal.returns-in-Equal
returns-in-Equal c = absurd (never_same c.find_fork-f.ensures c.if-p-eq0.false c.if-q-eq0-2.false _
    c.label_order-order.ensures c.in-Equal.is)

pub returns-in-Greater : goal.returns-in-Greater
returns-in-Greater c = by_label_after c.find_fork-f.ensures c.if-p-eq0.false c.if-q-eq0-2.false _
    c.label_order-order.ensures c.in-Greater.is
