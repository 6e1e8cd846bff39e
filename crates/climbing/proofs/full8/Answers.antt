-- `full8` meets its contract: the first k octets are all g, where the test holds (`all_more`).
use native.Mathlib.Omega.{arith}
use Rattle.climbing.proofs.Raising.{all_none, all_more, all_so}
use Rattle.climbing.proofs.full8.Goals as goal

pub loop-k-init : goal.loop-k-init
loop-k-init c = all_none _ _ _ _ c.requires

pub loop-k-preserved : goal.loop-k-preserved
loop-k-preserved c = all_more c.loop-k.invariant _ c.lower.ensures (omega arith)

pub returns : goal.returns
returns c = all_so c.loop-k.invariant (omega arith)
