-- `last_below` meets its contract: the octets from k on are the greatest, and the first one before them that is not ends the search.
use mathlib.Core.Path.{◌≡◌}
use Prim.Native.Nat.{◌+◌, ◌-◌}
use native.Mathlib.Omega.{arith}
use Rattle.climbing.proofs.Raising.{trailing_octet, other_here, other_none}
use Rattle.climbing.proofs.last_below.Goals as goal

pub loop-k-init : goal.loop-k-init
loop-k-init c = c.before_full-k.ensures

pub overflow_add-first : goal.overflow_add-first
overflow_add-first c = omega (arith, c.loop-k.invariant.within)

pub bounds-octets-first : goal.bounds-octets-first
bounds-octets-first c = omega (arith, c.loop-k.invariant.within)

pub returns-then-lower-g : goal.returns-then-lower-g
returns-then-lower-g c = let back : c.loop-k.k - 1 + 1 ≡ c.loop-k.k = omega arith in
    rw back (rw c.greatest-g.ensures at (other_here c.loop-k.invariant _ c.lower.ensures c.if-lower-g.true))

pub loop-k-preserved : goal.loop-k-preserved
loop-k-preserved c = trailing_octet c.loop-k.invariant _ c.lower.ensures c.loop-k-test.true (omega arith) c.if-lower-g.false

pub returns : goal.returns
returns c = rw c.greatest-g.ensures at (other_none c.loop-k.invariant (omega arith))
