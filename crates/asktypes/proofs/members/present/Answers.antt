-- The window of the type's number, where there is one, has its bit, and no other window has (`Seeking`).
use mathlib.Core.Path.{refl, sym, ◌∙◌}
use native.Mathlib.Omega.{arith}
use Rattle.fromtypes.proofs.Rests.{Window, rest_start}
use Rattle.asktypes.proofs.Seeking.{has_beyond, has_here, seek_window, seek_next, seek_end}
use Rattle.asktypes.proofs.members.present.Goals as goal

pub loop-p-init : goal.loop-p-init
loop-p-init c = record { rest = _; walk = rest_start _ (search); left = refl }

pub overflow_add-n : goal.overflow_add-n
overflow_add-n c =
    let window : Window c.args.bitmap.now c.loop-p.p c.loop-p.invariant.rest = seek_window c.loop-p.invariant c.loop-p-test.true in
    omega (arith, window)

pub bounds-bitmap-p : goal.bounds-bitmap-p
bounds-bitmap-p c =
    let window : Window c.args.bitmap.now c.loop-p.p c.loop-p.invariant.rest = seek_window c.loop-p.invariant c.loop-p-test.true in
    omega (arith, window)

pub returns-then-n-k : goal.returns-then-n-k
returns-then-n-k c =
    let window : Window c.args.bitmap.now c.loop-p.p c.loop-p.invariant.rest = seek_window c.loop-p.invariant c.loop-p-test.true in
    sym (c.loop-p.invariant.left ∙ has_beyond window _ c.if-bitmap-p.true c.if-n-k.true)

pub overflow_add-result : goal.overflow_add-result
overflow_add-result c =
    let window : Window c.args.bitmap.now c.loop-p.p c.loop-p.invariant.rest = seek_window c.loop-p.invariant c.loop-p-test.true in
    omega (arith, window)

pub overflow_add-result-then-bitmap-p : goal.overflow_add-result-then-bitmap-p
overflow_add-result-then-bitmap-p c =
    let window : Window c.args.bitmap.now c.loop-p.p c.loop-p.invariant.rest = seek_window c.loop-p.invariant c.loop-p-test.true in
    omega (arith, window)

pub bounds-bitmap-p-then-bitmap-p : goal.bounds-bitmap-p-then-bitmap-p
bounds-bitmap-p-then-bitmap-p c =
    let window : Window c.args.bitmap.now c.loop-p.p c.loop-p.invariant.rest = seek_window c.loop-p.invariant c.loop-p-test.true in
    omega (arith, window)

pub returns-then-bitmap-p : goal.returns-then-bitmap-p
returns-then-bitmap-p c =
    let window : Window c.args.bitmap.now c.loop-p.p c.loop-p.invariant.rest = seek_window c.loop-p.invariant c.loop-p-test.true in
    sym (c.loop-p.invariant.left
    ∙ has_here window _ c.if-bitmap-p.true (c.type_inv.bitmap _).fits c.if-n-k.false)

pub overflow_add-p : goal.overflow_add-p
overflow_add-p c =
    let window : Window c.args.bitmap.now c.loop-p.p c.loop-p.invariant.rest = seek_window c.loop-p.invariant c.loop-p-test.true in
    omega (arith, window)

pub overflow_add-p-in-loop-p : goal.overflow_add-p-in-loop-p
overflow_add-p-in-loop-p c =
    let window : Window c.args.bitmap.now c.loop-p.p c.loop-p.invariant.rest = seek_window c.loop-p.invariant c.loop-p-test.true in
    omega (arith, window)

pub loop-p-smaller : goal.loop-p-smaller
loop-p-smaller c =
    let window : Window c.args.bitmap.now c.loop-p.p c.loop-p.invariant.rest = seek_window c.loop-p.invariant c.loop-p-test.true in
    omega (arith, window)

pub loop-p-preserved : goal.loop-p-preserved
loop-p-preserved c =
    let window : Window c.args.bitmap.now c.loop-p.p c.loop-p.invariant.rest = seek_window c.loop-p.invariant c.loop-p-test.true in
    seek_next c.loop-p.invariant window c.if-bitmap-p.false

pub returns : goal.returns
returns c = sym (seek_end c.loop-p.invariant c.loop-p-test.false)
