-- `long_shown` meets its contract: where `all` is true, the first i characters pass the test, or all of them (`each_block`).
use Prim.Native.Nat.{◌-◌, min}
use Rattle.totext.specs.Private.Shown.{Each}
use Rattle.totext.proofs.shown.long_shown.Given as goal

abbrev pub invariant-loop-i : goal.invariant-loop-i
invariant-loop-i l = Each l.s l.t 0 (min l.i l.n) l.all

abbrev pub decreases-loop-i : goal.decreases-loop-i
decreases-loop-i l = l.n - l.i
