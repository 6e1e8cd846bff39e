-- `has_dotted_length` meets its contract: a name is short, so that no place behind a label is too large a number.
use Prim.Native.Nat.{◌-◌, ◌≤◌}
use lib.ListN.{length}
use Rattle.totext.proofs.has_dotted_length.Given as goal

abbrev pub invariant-loop-p : goal.invariant-loop-p
invariant-loop-p l = (length l.name ≤ 255) × (l.p ≤ 511)

abbrev pub decreases-loop-p : goal.decreases-loop-p
decreases-loop-p l = length l.name - l.p
