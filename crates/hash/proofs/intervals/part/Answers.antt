-- `part` meets its contract: v is the number of the first k octets (`part_more`), which has room (`part_room`).
use Rattle.hash.proofs.Lesser.{part_none, part_more, part_room}
use Rattle.std.proofs.Common.{◌≡◌, drop, arith, rules}
use Rattle.hash.proofs.Arrays.{array_octets}
use Rattle.hash.proofs.intervals.part.Goals as goal

pub loop-k-init : goal.loop-k-init
loop-k-init c = let a = c.args in (omega arith, part_none (drop a.at a.hash))

pub overflow_mul-v : goal.overflow_mul-v
overflow_mul-v c = let l = c.loop-k in let a = c.args in
    omega (arith, part_room a.hash a.at l.k (omega arith) (search (array_octets, rules)) (omega arith), l.invariant.1)

pub overflow_add-v-in-loop-k : goal.overflow_add-v-in-loop-k
overflow_add-v-in-loop-k c = let l = c.loop-k in let a = c.args in
    omega (arith, part_room a.hash a.at l.k (omega arith) (search (array_octets, rules)) (omega arith), l.invariant.1)

pub loop-k-preserved : goal.loop-k-preserved
loop-k-preserved c = let l = c.loop-k in let a = c.args in
    (omega arith, rw l.invariant.1 (part_more a.hash a.at l.k (omega arith)))

pub returns : goal.returns
returns c = let l = c.loop-k in let all : l.k ≡ c.args.w = omega arith in rw (← all) l.invariant.1
