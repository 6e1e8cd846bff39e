-- The number so far is that of the digits read, and is small because all of them are few.
use Rattle.hashlabel.proofs.Grouped.{part_all}
use mathlib.Core.Path.{refl}
use native.Mathlib.Omega.{arith}
use borrow.Author.Rules.{rules}
use Rattle.hash.specs.Digits.{value}
use Rattle.hashlabel.proofs.Grouped.{part_more, part_small}
use Rattle.hashlabel.proofs.groups.number.Goals as goal

pub loop-k-init : goal.loop-k-init
unfolding value
loop-k-init c = (search rules, refl)

pub overflow_mul-v : goal.overflow_mul-v
overflow_mul-v c = record { fits = omega (arith, part_small c.requires c.loop-k-test.true c.loop-k.invariant.1) }

pub overflow_add-v-in-loop-k : goal.overflow_add-v-in-loop-k
overflow_add-v-in-loop-k c = record { fits = omega (arith, part_small c.requires c.loop-k-test.true c.loop-k.invariant.1) }

pub loop-k-preserved : goal.loop-k-preserved
loop-k-preserved c = (search rules, part_more c.requires c.loop-k-test.true c.loop-k.invariant.1)

pub returns : goal.returns
returns c = part_all c.requires c.loop-k.invariant.1 c.loop-k.invariant.0 c.loop-k-test.false
