-- `before_full` meets its contract: the octets from k on are g, and a block of them more is taken off (`trailing_more`).
use mathlib.Core.Path.{refl}
use native.Mathlib.Omega.{arith}
use Rattle.climbing.proofs.Raising.{trailing_none, trailing_more}
use Rattle.climbing.proofs.before_full.Goals as goal

pub loop-k-init : goal.loop-k-init
loop-k-init c = trailing_none _ _ _ _

pub overflow_add-first : goal.overflow_add-first
overflow_add-first c = omega (arith, c.loop-k.invariant.within)

pub full8-requires : goal.full8-requires
full8-requires c = omega (arith, c.loop-k.invariant.within)

pub loop-k-preserved : goal.loop-k-preserved
loop-k-preserved c = trailing_more c.loop-k.invariant 8 _ _ (omega arith) refl refl (c.full8.ensures c.if-full8.true)

pub returns-else-full8 : goal.returns-else-full8
returns-else-full8 c = c.loop-k.invariant

pub returns-after-loop-k : goal.returns-after-loop-k
returns-after-loop-k c = c.loop-k.invariant
