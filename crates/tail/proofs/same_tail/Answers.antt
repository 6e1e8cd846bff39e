-- `same_tail` meets its contract: the last k blocks are the same (`Tail`), and one that is the same before them makes them one more.
use native.Mathlib.Omega.{arith}
use native.Mathlib.Nat.{zero-mul}
use Rattle.std.proofs.Math.Nat.{lt-div-mul-add}
use mathlib.Core.Path.{◌≡◌}
use Prim.Native.Nat.{◌+◌, ◌*◌, ◌/◌, ◌<◌}
use Rattle.tail.proofs.Tails.{tail_start, tail_block, tail_stops, block_room}
use Rattle.tail.proofs.same_tail.Goals as goal

pub loop-k-init : goal.loop-k-init
loop-k-init c = rw zero-mul (tail_start _ _)

pub loop-k-preserved : goal.loop-k-preserved
loop-k-preserved c =
    let room = block_room c.loop-k.k c.args.w c.min.result c.loop-k-test.true in
    tail_block c.loop-k.k c.args.w c.loop-k.invariant (c.same_block.ensures.0 c.if-not-same_block.false) (omega arith) (omega arith)
    (omega arith)

pub returns-then-not-same_block : goal.returns-then-not-same_block
returns-then-not-same_block c =
    tail_stops c.loop-k.k c.args.w c.loop-k.invariant (λ first second e. c.same_block.ensures.1 c.if-not-same_block.true e) (omega arith)

pub returns : goal.returns
returns c =
    let most : c.min.result < c.min.result / c.args.w * c.args.w + c.args.w = lt-div-mul-add c.requires in
    let all : c.loop-k.k ≡ c.min.result / c.args.w = omega arith in
    tail_stops (c.min.result / c.args.w) c.args.w (rw all at c.loop-k.invariant) (λ first second e. omega arith) (omega arith)
