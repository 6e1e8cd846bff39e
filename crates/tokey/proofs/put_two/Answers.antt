-- `put_two` meets its contract: the octet's code is both octets that are written where it is below 2, and else the second.
use native.Mathlib.Omega.{arith}
use borrow.Author.Tests.{ltb-true}
use mathlib.Core.Path.{◌∙◌}
use lib.ListN.{length-set}
use Rattle.tokey.proofs.PutOctets.{two_small, two_large}
use Rattle.tokey.proofs.put_two.Goals.{else-small, then-small}
use Rattle.tokey.proofs.put_two.Goals as goal

pub overflow_add-c : goal.overflow_add-c
overflow_add-c c = omega (arith, ltb-true)

pub bounds-space-at : goal.bounds-space-at
bounds-space-at c = simp length-set (omega (arith, c.requires))

pub returns-then-small-2 : goal.returns-then-small-2
returns-then-small-2 c = two_small c.args.o c.requires.0 c.requires.1 c.if-small-2.true
    (elim c.if-small.branch [ then-small w ↦ w.c-is | else-small w ↦ absurd (omega arith) ])

pub returns-else-small-2 : goal.returns-else-small-2
returns-else-small-2 c = two_large c.args.o c.requires.0 c.requires.1 c.if-small-2.false
    (elim c.if-small.branch [ then-small w ↦ absurd (omega arith) | else-small w ↦ w.c-is ∙ c.lower-c.ensures ])
