-- `halve` meets its contract: the loop is the halving of the indexes that are left (`At`).
use Prim.Native.Nat.{◌-◌}
use Rattle.findowner.proofs.Turns.{At}
use Rattle.findowner.proofs.halve.Given as goal

abbrev pub invariant-loop-low : goal.invariant-loop-low
invariant-loop-low l = At l.names l.starts l.query l.low l.high l.looks

abbrev pub decreases-loop-low : goal.decreases-loop-low
decreases-loop-low l = l.high - l.low
