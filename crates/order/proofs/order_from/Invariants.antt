-- `order_from` meets its contract: the first k octets are the same (`Alike`), and the next ones decide, or are the same too.
use Prim.Native.Nat.{◌≤◌}
use lib.ListN.{length}
use Rattle.order.proofs.LabelOctets.{Alike}
use Rattle.order.proofs.order_from.Given as goal

abbrev pub invariant-loop-k : goal.invariant-loop-k
invariant-loop-k l = (l.k ≤ length l.a) × (l.k ≤ length l.b) × Alike l.a l.b l.k
