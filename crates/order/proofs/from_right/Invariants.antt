-- `from_right` meets its contract: the last k labels are shared (`Aligned`), and the next two decide, or are shared too.
use Prim.Native.Nat.{◌≤◌, ◌-◌}
use Rattle.order.specs.Order.{folded_labels}
use Rattle.order.proofs.Alignment.{Aligned}
use Rattle.order.proofs.from_right.Given as goal

abbrev pub invariant-loop-k : goal.invariant-loop-k
invariant-loop-k l = (l.k ≤ l.m) × (l.k ≤ l.n) × (l.m ≤ 127) × (l.n ≤ 127)
    × Aligned (folded_labels l.s) (folded_labels l.t) (l.m - l.k) (l.n - l.k) l.k
