-- `put_end` meets its contract: the number of octets is that of its definition, and they are put where they have room before the index.
use mathlib.Core.Path.{◌∙◌}
use native.Mathlib.Omega.{arith}
use Rattle.space.proofs.Ends.{end_whole, end_put, end_none}
use Rattle.space.proofs.put_end.Goals as goal

pub overflow_sub-size : goal.overflow_sub-size
overflow_sub-size c = end_whole _ _ _ c.end_count-n.ensures (omega arith)

pub returns-then-n-end : goal.returns-then-n-end
returns-then-n-end c = c.put_folded.ensures ∙ end_put _ _ _ _ c.end_count-n.ensures (omega arith) c.if-n-end.true

pub returns-else-n-end : goal.returns-else-n-end
returns-else-n-end c = end_none _ _ _ _ c.end_count-n.ensures (omega arith) c.if-n-end.false
