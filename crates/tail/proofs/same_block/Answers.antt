-- `same_block` meets its contract: `same` says whether the first k octets of the two blocks are the same (`Agree`).
use native.Mathlib.Omega.{arith}
use mathlib.Core.Path.{◌≡◌}
use Rattle.tail.proofs.Tails.{agree_start, agree_more, agree_no_more}
use Rattle.tail.proofs.same_block.Goals.{else-lower, then-lower}
use Rattle.tail.proofs.same_block.Goals as goal

pub loop-k-init : goal.loop-k-init
loop-k-init c = (omega arith, agree_start _ _ _ _)

pub loop-k-preserved : goal.loop-k-preserved
loop-k-preserved c = let x = c.lower.ensures in let y = c.lower-in-loop-k.ensures in (
  omega arith,
  elim c.if-lower.branch [
    | then-lower w ↦ rw w.same-is (agree_no_more _ x y w.if-lower.true)
    | else-lower w ↦ rw w.same-is (agree_more _ x y c.loop-k.invariant.1 (omega arith) (omega arith) w.if-lower.false)
  ],
)

pub returns : goal.returns
returns c = let a = c.args in let k : c.loop-k.k ≡ a.w = omega arith in
    let g = rw k at c.loop-k.invariant.1 in (g.found, g.differs)
