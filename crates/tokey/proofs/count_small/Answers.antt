-- `count_small` meets its contract: the octets 0 and 1 that are counted and those still to come are all.
use native.Mathlib.Omega.{arith}
use Rattle.tokey.proofs.SmallCounts.{counting_small, counting_large, counting_room}
use Rattle.tokey.proofs.count_small.Goals.{else-o-lt2, then-o-lt2}
use Rattle.tokey.proofs.count_small.Goals as goal

pub overflow_add-n : goal.overflow_add-n
overflow_add-n c = omega (arith, counting_room c.loop-o.invariant (omega arith) (omega arith))

pub loop-o-preserved : goal.loop-o-preserved
loop-o-preserved c = let i = c.loop-o.invariant in
    elim c.if-o-lt2.branch [
      | then-o-lt2 w ↦ rw w.n-is (counting_small i (omega arith) w.if-o-lt2.true)
      | else-o-lt2 w ↦ rw w.n-is (counting_large i (omega arith) w.if-o-lt2.false)
    ]
