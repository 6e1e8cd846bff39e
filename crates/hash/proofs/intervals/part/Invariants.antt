-- `part` meets its contract: v is the number of the first k octets (`part_more`), which has room (`part_room`).
use Rattle.std.proofs.Common.{◌≡◌, ◌≤◌, take, drop}
use Rattle.hash.specs.Digits.{value}
use Rattle.hash.proofs.intervals.part.Given as goal

abbrev pub invariant-loop-k : goal.invariant-loop-k
invariant-loop-k l = (l.k ≤ l.w) × (l.v ≡ value 256 (take l.k (drop l.at l.h)))
