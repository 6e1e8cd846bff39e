-- `seen_shared` meets its contract: the last k labels are shared, and one more that begins as far from the end within the same octets.
use mathlib.Core.Path.{◌≡◌}
use Prim.Native.Nat.{◌≤◌, ◌-◌}
use lib.ListN.{drop}
use Rattle.order.specs.Order.{folded_labels}
use Rattle.order.proofs.seen_shared.Given as goal

abbrev pub invariant-loop-k : goal.invariant-loop-k
invariant-loop-k l = (l.k ≤ l.m) × (l.k ≤ l.n)
    × (drop (l.m - l.k) (folded_labels l.s) ≡ drop (l.n - l.k) (folded_labels l.t))
