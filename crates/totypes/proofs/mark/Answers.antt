-- The types are marked from the last one back, as long as they are of the window (`Marked`).
use mathlib.Core.Path.{◌≡◌}
use Prim.Native.Nat.{◌+◌, ◌-◌}
use native.Mathlib.Omega.{arith}
use Rattle.totypes.proofs.Markings.{marked_none, marked_other, marked_index, marked_low, marked_more, marked_all}
use Rattle.totypes.proofs.mark.Goals as goal

pub loop-i-init : goal.loop-i-init
loop-i-init c = marked_none c.requires

pub bounds-types-i : goal.bounds-types-i
bounds-types-i c = omega (arith, c.loop-i.invariant.within, c.requires.within)

pub returns-then-t-w : goal.returns-then-t-w
returns-then-t-w c =
    let e : c.loop-i.i - 1 + 1 ≡ c.loop-i.i = omega arith in
    rw e (marked_other c.requires c.loop-i.invariant c.loop-i-test.true c.if-t-w.true)

pub overflow_add-space : goal.overflow_add-space
overflow_add-space c = omega (
  arith,
  marked_index c.requires c.loop-i.invariant c.loop-i-test.true c.if-t-w.false,
  c.loop-i.invariant.written.size,
)

pub bounds-space-start : goal.bounds-space-start
bounds-space-start c = marked_index c.requires c.loop-i.invariant c.loop-i-test.true c.if-t-w.false

pub overflow_add-space-in-loop-i : goal.overflow_add-space-in-loop-i
overflow_add-space-in-loop-i c = record { fits = marked_low c.requires c.loop-i.invariant c.loop-i-test.true c.if-t-w.false }

pub bounds-space-start-in-loop-i : goal.bounds-space-start-in-loop-i
bounds-space-start-in-loop-i c = marked_index c.requires c.loop-i.invariant c.loop-i-test.true c.if-t-w.false

pub loop-i-preserved : goal.loop-i-preserved
loop-i-preserved c = marked_more c.requires c.loop-i.invariant c.loop-i-test.true c.if-t-w.false

pub returns : goal.returns
returns c = marked_all c.requires c.loop-i.invariant c.loop-i-test.false
