-- `long_order` meets its contract: the blocks that are the same are a front of both labels.
use Rattle.order.proofs.long_order.Goals as goal

pub order_from-requires : goal.order_from-requires
order_from-requires c = let g = c.same_front.ensures in (g.0, g.1, g.2)
