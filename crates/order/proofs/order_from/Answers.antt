-- `order_from` meets its contract: the first k octets are the same (`Alike`), and the next ones decide, or are the same too.
use native.Mathlib.Omega.{arith}
use Rattle.order.proofs.LabelOctets.{alike_front, second_ends, first_ends, both_end, less, more, equal}
use Rattle.order.proofs.order_from.Goals as goal

pub loop-k-init : goal.loop-k-init
loop-k-init c = let g = c.requires in (g.0, g.1, alike_front _ _ g)

pub returns-then-b-k : goal.returns-then-b-k
returns-then-b-k c = search (second_ends, arith)

pub returns-then-x-y : goal.returns-then-x-y
returns-then-x-y c = search (less, arith)

pub returns-then-y-x : goal.returns-then-y-x
returns-then-y-x c = search (more, arith)

pub loop-k-preserved : goal.loop-k-preserved
loop-k-preserved c = (
  omega arith,
  omega arith,
  equal c.loop-k.invariant.2 (omega arith) (omega arith) c.lower-x.ensures c.lower-y.ensures (omega arith)
      (omega arith),
)

pub returns-then-a-b : goal.returns-then-a-b
returns-then-a-b c = search (first_ends, arith)

pub returns : goal.returns
returns c = search (both_end, arith)
