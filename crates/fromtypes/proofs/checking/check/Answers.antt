-- The check is where the reader is (`Walk`), and each of its tests is the reader's.
use native.Mathlib.Omega.{arith}
use Rattle.fromtypes.proofs.Walks.{walk_start, walk_end, walk_falls, walk_number_alone, walk_count, walk_cut}
use Rattle.fromtypes.proofs.Walks.{walk_zero, walk_next}
use Rattle.fromtypes.proofs.checking.check.Goals as goal

pub loop-p-init : goal.loop-p-init
loop-p-init c = walk_start _

pub returns-then-w-least : goal.returns-then-w-least
returns-then-w-least c = walk_falls c.loop-p.invariant (λ i. (c.type_inv.bitmap i).fits) c.loop-p-test.true c.if-w-least.true

pub returns-then-bitmap-q : goal.returns-then-bitmap-q
returns-then-bitmap-q c =
    walk_number_alone c.loop-p.invariant (λ i. (c.type_inv.bitmap i).fits) c.loop-p-test.true c.if-w-least.false c.if-bitmap-q.true

pub returns-then-n-eq0 : goal.returns-then-n-eq0
returns-then-n-eq0 c = walk_count c.loop-p.invariant (λ i. (c.type_inv.bitmap i).fits)
    c.loop-p-test.true c.if-w-least.false c.if-bitmap-q.false (λ h. omega arith)

pub returns-then-n-gt32 : goal.returns-then-n-gt32
returns-then-n-gt32 c = walk_count c.loop-p.invariant (λ i. (c.type_inv.bitmap i).fits)
    c.loop-p-test.true c.if-w-least.false c.if-bitmap-q.false (λ h. omega arith)

pub returns-then-bitmap-e : goal.returns-then-bitmap-e
returns-then-bitmap-e c = walk_cut c.loop-p.invariant (λ i. (c.type_inv.bitmap i).fits)
    c.loop-p-test.true c.if-w-least.false c.if-bitmap-q.false (omega arith) (omega arith) c.if-bitmap-e.true

pub returns-then-bitmap-e-eq0 : goal.returns-then-bitmap-e-eq0
returns-then-bitmap-e-eq0 c = walk_zero c.loop-p.invariant (λ i. (c.type_inv.bitmap i).fits)
    c.loop-p-test.true c.if-w-least.false c.if-bitmap-q.false (omega arith) (omega arith) c.if-bitmap-e.false
    c.if-bitmap-e-eq0.true

pub overflow_add-least : goal.overflow_add-least
overflow_add-least c = omega (arith, (c.type_inv.bitmap c.loop-p.p).fits)

pub loop-p-preserved : goal.loop-p-preserved
loop-p-preserved c = walk_next c.loop-p.invariant (λ i. (c.type_inv.bitmap i).fits)
    c.loop-p-test.true c.if-w-least.false c.if-bitmap-q.false (omega arith) (omega arith) c.if-bitmap-e.false
    (omega arith)

pub returns : goal.returns
returns c = walk_end c.loop-p.invariant c.loop-p-test.false
