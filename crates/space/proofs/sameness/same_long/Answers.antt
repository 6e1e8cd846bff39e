-- `same_long` meets its contract: before each block `same` says whether the first i octets are the same, or all (`comparing_block`).
use native.Mathlib.Omega.{arith}
use lib.ListN.{length}
use Rattle.space.proofs.SameBlocks.{comparing_none, comparing_block, comparing_all}
use Rattle.space.proofs.sameness.same_long.Goals as goal

pub loop-i-init : goal.loop-i-init
loop-i-init c = (omega arith, comparing_none _ _ _ _ _ (omega arith))

pub loop-i-preserved : goal.loop-i-preserved
loop-i-preserved c = let l = c.loop-i.invariant in
    (omega arith, comparing_block l.1 _ _ 16 c.same_block-same.ensures (omega arith))

pub returns : goal.returns
returns c = comparing_all c.loop-i.invariant.1 (omega arith)

pub returns-2 : goal.returns-2
returns-2 c = let l = c.loop-i.invariant in
    comparing_all (comparing_block l.1 _ _ 16 c.same_block-same.ensures {m = length c.args.t.now} (omega arith)) (omega arith)
