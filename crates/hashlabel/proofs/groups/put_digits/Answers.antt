-- Digits are written from the right, and with those that are left the list is the one asked for.
use native.Mathlib.Nat.{mod-lt}
use mathlib.Core.Path.{refl}
use native.Mathlib.Omega.{arith}
use borrow.Author.Rules.{rules}
use Rattle.hashlabel.proofs.Grouped.{left_none, left_more}
use Rattle.hashlabel.proofs.groups.put_digits.Goals as goal

pub loop-k-init : goal.loop-k-init
loop-k-init c = record { room = search rules; kept = refl; result = refl }

pub overflow_cast-d : goal.overflow_cast-d
overflow_cast-d c = record { fits = omega (arith, mod-lt c.loop-k.rest c.requires.base_nonzero.0) }

pub loop-k-preserved : goal.loop-k-preserved
loop-k-preserved c = left_more c.loop-k.invariant _ c.loop-k-test.true refl

pub returns : goal.returns
returns c = left_none c.loop-k.invariant c.loop-k-test.false
