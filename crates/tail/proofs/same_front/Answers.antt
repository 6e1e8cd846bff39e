-- `same_front` meets its contract: the first k blocks are the same (`Front`), and one that is the same behind them makes them one more.
use native.Mathlib.Omega.{arith}
use mathlib.Core.Path.{◌≡◌}
use Prim.Native.Nat.{◌+◌, ◌*◌, ◌/◌}
use Rattle.tail.proofs.Tails.{front_start, front_more, front_stops}
use Rattle.tail.proofs.same_front.Goals as goal

pub loop-k-init : goal.loop-k-init
loop-k-init c = front_start _ _

pub loop-k-preserved : goal.loop-k-preserved
loop-k-preserved c =
    let next : c.loop-k.k * 8 + 8 ≡ (c.loop-k.k + 1) * 8 = omega arith in
    rw next at (front_more c.loop-k.invariant 8 (c.same_block.ensures.0 c.if-not-same_block.false) (omega arith) (omega arith)
    (omega arith))

pub returns-then-not-same_block : goal.returns-then-not-same_block
returns-then-not-same_block c =
    front_stops c.loop-k.invariant 8 (λ first second e. c.same_block.ensures.1 c.if-not-same_block.true e) (omega arith)
    (omega arith)

pub returns : goal.returns
returns c =
    let all : c.loop-k.k ≡ c.min-blocks.result / 8 = omega arith in
    front_stops (rw all at c.loop-k.invariant) 8 (λ first second e. omega arith) (omega arith) (omega arith)
