-- What is told of the first digits is their test, and one more joins it.
use mathlib.Core.Path.{◌≡◌}
use lib.ListN.{take}
use Rattle.hash.specs.Digits.{are_digits}
use Rattle.hashlabel.proofs.are_digits.Given as goal

abbrev pub invariant-loop-digit : goal.invariant-loop-digit
invariant-loop-digit l = l.each ≡ are_digits 32 (take l.digit-index l.digit-items)
