-- `put_key` meets its contract: the labels passed are written from `end` on, and the key of the others ends there.
use Rattle.tokey.proofs.PutKeys.{Passing}
use Rattle.tokey.proofs.put_key.Given as goal

abbrev pub invariant-loop-end : goal.invariant-loop-end
invariant-loop-end l = Passing l.name l.initial.space l.len l.p l.end l.space

abbrev pub decreases-loop-end : goal.decreases-loop-end
decreases-loop-end l = l.end
