-- `walk_for` meets its contract: each case is what its walk promises, and all labels begin at the front (`walks_all`).
use native.Mathlib.Omega.{arith}
use Rattle.checks.proofs.Marks.{walks_all, walks_nowhere}
use Rattle.checks.proofs.walk_for.Goals as goal

pub returns-then-at-eq-MAX_LEN : goal.returns-then-at-eq-MAX_LEN
returns-then-at-eq-MAX_LEN c = rw c.in-All.is (walks_nowhere c.walk_last-at.ensures c.if-at-eq-MAX_LEN.true)

pub returns-in-Two : goal.returns-in-Two
returns-in-Two c = rw c.in-Two.is c.walk.ensures

pub returns-in-Three : goal.returns-in-Three
returns-in-Three c = rw c.in-Three.is c.walk-in-Three.ensures

pub returns-in-One : goal.returns-in-One
returns-in-One c = rw c.in-One.is c.walk_last.ensures

pub returns-in-Other : goal.returns-in-Other
returns-in-Other c = rw c.in-Other.is c.walk_last-in-Other.ensures

pub returns-else-at-eq-MAX_LEN : goal.returns-else-at-eq-MAX_LEN
returns-else-at-eq-MAX_LEN c = let w = c.walk_last-at.ensures in
    rw c.in-All.is (walks_all w (omega (arith, w.most, c.if-at-eq-MAX_LEN.false)))
