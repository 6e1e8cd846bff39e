-- What holds at each place of `read_words`: the open label by the indices of its first octet and of its next.
use mathlib.Core.Path.{◌≡◌}
use Prim.Native.Nat.{◌+◌, ◌-◌}
use lib.ListN.{length}
use Rattle.fromtext.proofs.PlainRuns.{Open}
use Rattle.fromtext.proofs.runs.read_words.Given as goal

abbrev pub invariant-loop-p : goal.invariant-loop-p
invariant-loop-p l = (l.last + 8 ≡ length l.text) × Open l.text l.octets l.«open» l.at l.full l.p

abbrev pub decreases-loop-p : goal.decreases-loop-p
decreases-loop-p l = length l.text - l.p
