-- `parse` meets its contract: at each place what was read is what the reader has done (`Reading`).
use mathlib.Core.Path.{◌≡◌}
use Prim.Native.Nat.{◌-◌, min}
use lib.ListN.{length}
use Rattle.fromtext.specs.Private.Parse.{Reading}
use Rattle.fromtext.proofs.parse.Given as goal

abbrev pub invariant-loop-p : goal.invariant-loop-p
invariant-loop-p l = Reading l.text l.octets l.start l.size l.p × (l.most ≡ min 63 (253 - l.start))

abbrev pub decreases-loop-p : goal.decreases-loop-p
decreases-loop-p l = length l.text - l.p
