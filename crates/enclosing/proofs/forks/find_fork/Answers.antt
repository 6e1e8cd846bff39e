-- `find_fork` meets its contract: neither place passes those where the names come together (`Coming`), and where so many octets are left
-- behind both they are there.
use native.Mathlib.Omega.{arith}
use Rattle.enclosing.proofs.Forking.{same_some, coming_start, coming_some, coming_next, coming_end}
use Rattle.enclosing.proofs.forks.find_fork.Goals as goal

pub advance-x-requires : goal.advance-x-requires
advance-x-requires c = let p = c.requires in
    (p.0.stands, same_some p.0.stands.here.whole p.1.stands.here.whole p.2)

pub overflow_sub-s : goal.overflow_sub-s
overflow_sub-s c = omega (arith, c.advance-x.ensures.stands.here.within)

pub advance-y-requires : goal.advance-y-requires
advance-y-requires c = (c.requires.1.stands, omega (arith, c.advance-x.ensures.stands.here.within))

pub loop-p-init : goal.loop-p-init
loop-p-init c = let p = c.requires in coming_start p.0 p.1 p.2 c.advance-x.ensures c.advance-y.ensures

pub overflow_sub-s-in-loop-p : goal.overflow_sub-s-in-loop-p
overflow_sub-s-in-loop-p c = omega (arith, coming_some c.loop-p.invariant)

pub overflow_sub-t : goal.overflow_sub-t
overflow_sub-t c = omega (arith, coming_some c.loop-p.invariant)

pub overflow_sub-t-in-loop-p : goal.overflow_sub-t-in-loop-p
overflow_sub-t-in-loop-p c = omega (arith, coming_some c.loop-p.invariant)

pub advance-x-requires-in-loop-p : goal.advance-x-requires-in-loop-p
advance-x-requires-in-loop-p c = let i = c.loop-p.invariant in (i.first, omega (arith, coming_some i))

pub overflow_sub-s-in-loop-p-2 : goal.overflow_sub-s-in-loop-p-2
overflow_sub-s-in-loop-p-2 c = omega (arith, c.advance-x-in-loop-p.ensures.stands.here.within)

pub advance-y-requires-in-loop-p : goal.advance-y-requires-in-loop-p
advance-y-requires-in-loop-p c = (c.loop-p.invariant.second, omega (arith, c.advance-x-in-loop-p.ensures.stands.here.within))

pub loop-p-smaller : goal.loop-p-smaller
loop-p-smaller c = let i = c.loop-p.invariant in
    omega (arith, i.closer, c.advance-x-in-loop-p.ensures.close, coming_some i, c.loop-p-test.true)

pub loop-p-preserved : goal.loop-p-preserved
loop-p-preserved c = coming_next c.loop-p.invariant c.advance-x-in-loop-p.ensures c.advance-y-in-loop-p.ensures

pub returns : goal.returns
returns c = coming_end c.loop-p.invariant c.requires.2 c.loop-p-test.false
