-- `other_lengths` meets its contract: n of the length octets before the place p are others (`lengths_more`).
use Prim.Native.Nat.{◌<◌}
use native.Mathlib.Omega.{arith}
use lib.ListN.{length}
use Rattle.checks.specs.Private.Climbs.{past}
use Rattle.spelling.proofs.SpelledLabels.{lengths_none, lengths_within, lengths_more, lengths_all}
use Rattle.spelling.proofs.other_lengths.Goals.{else-not-includes, then-not-includes}
use Rattle.spelling.proofs.other_lengths.Goals as goal

pub loop-p-init : goal.loop-p-init
loop-p-init c = lengths_none _ _ c.requires

pub bounds-name-p : goal.bounds-name-p
bounds-name-p c = omega (arith, lengths_within c.loop-p.invariant c.loop-p-test.true)

pub overflow_add-first : goal.overflow_add-first
overflow_add-first c = omega (arith, lengths_within c.loop-p.invariant c.loop-p-test.true)

pub overflow_add-n : goal.overflow_add-n
overflow_add-n c = let ends : past c.args.name.now c.loop-p.p
    < length c.args.name.now = lengths_within c.loop-p.invariant c.loop-p-test.true in
    let l = c.loop-p.invariant in omega (arith, l.few, ends)

pub overflow_cast-p : goal.overflow_cast-p
overflow_cast-p c = let ends : past c.args.name.now c.loop-p.p
    < length c.args.name.now = lengths_within c.loop-p.invariant c.loop-p-test.true in
    omega (arith, ends)

pub overflow_add-p : goal.overflow_add-p
overflow_add-p c = let ends : past c.args.name.now c.loop-p.p
    < length c.args.name.now = lengths_within c.loop-p.invariant c.loop-p-test.true in
    omega (arith, ends)

pub loop-p-preserved : goal.loop-p-preserved
loop-p-preserved c = lengths_more c.loop-p.invariant c.loop-p-test.true c.includes.ensures
    (elim c.if-not-includes.branch [
      | then-not-includes w ↦ rw w.if-not-includes.true (omega (arith, w.n-is))
      | else-not-includes w ↦ rw w.if-not-includes.false (omega (arith, w.n-is))
    ])

pub returns : goal.returns
returns c = lengths_all c.loop-p.invariant c.loop-p-test.false
