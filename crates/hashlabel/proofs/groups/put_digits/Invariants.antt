-- Digits are written from the right, and with those that are left the list is the one asked for.
use mathlib.Core.List.{◌++◌}
use Prim.Native.Nat.{◌+◌}
use lib.ListN.{take, drop, length}
use Rattle.hash.specs.Digits.{digits}
use Rattle.hashlabel.proofs.Grouped.{Left}
use Rattle.hashlabel.proofs.groups.put_digits.Given as goal

abbrev pub invariant-loop-k : goal.invariant-loop-k
invariant-loop-k l = Left (length l.initial.d) (take l.at l.initial.d ++ digits l.base l.count l.v ++ drop (l.at + l.count) l.initial.d)
    l.d l.base l.at l.k l.rest
