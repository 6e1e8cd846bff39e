-- `fold_block` meets its contract: the first k octets stand in the array (`Taken`), and then in the space (`Folding`).
use mathlib.Core.Path.{refl}
use native.Mathlib.Omega.{arith}
use Rattle.space.proofs.Taken.{taken_none, taken_more, taken_fewer}
use Rattle.space.proofs.FoldedBlocks.{folding_none, folding_octet, folding_all}
use Rattle.space.proofs.folding.fold_block.Goals as goal

pub loop-k-init : goal.loop-k-init
loop-k-init c = (omega arith, taken_none _ _ refl)

pub loop-k-preserved : goal.loop-k-preserved
loop-k-preserved c = (omega arith, taken_more c.loop-k.invariant.1 (omega arith) _ c.lower.ensures)

pub loop-k-2-init : goal.loop-k-2-init
loop-k-2-init c = (taken_fewer c.loop-k.invariant.1 (omega arith), folding_none _ _ _ _ _ (omega arith))

pub loop-k-2-preserved : goal.loop-k-2-preserved
loop-k-2-preserved c = let l = c.loop-k-2.invariant in
    (l.0, folding_octet l.1 _ _ _ refl (l.0.octet _ c.loop-k-2-test.true) (omega arith))

pub returns : goal.returns
returns c = folding_all c.loop-k-2.invariant.1 (omega arith)
