-- `put_heads` meets its contract: seven octets set one by one are the space with the heads over its front.
use mathlib.Core.Path.{refl}
use mathlib.Core.List.{[], ◌∷◌}
use native.Mathlib.Omega.{arith}
use lib.ListN.{length-set}
use Rattle.space.proofs.Written.{written_stored, written_front}
use Rattle.answering.proofs.put_heads.Goals as goal

pub bounds-space-1 : goal.bounds-space-1
bounds-space-1 c = simp length-set (omega arith)

pub bounds-space-2 : goal.bounds-space-2
bounds-space-2 c = simp length-set (omega arith)

pub bounds-space-3 : goal.bounds-space-3
bounds-space-3 c = simp length-set (omega arith)

pub bounds-space-4 : goal.bounds-space-4
bounds-space-4 c = simp length-set (omega arith)

pub bounds-space-5 : goal.bounds-space-5
bounds-space-5 c = simp length-set (omega arith)

pub returns : goal.returns
returns c = let a = c.args in (
  refl,
  c.if-space-lt-HEADS.false,
  written_front (written_stored a.space.now 0 (16 ∷ 0 ∷ 1 ∷ 0 ∷ 17 ∷ 0 ∷ a.n ∷ []) refl c.if-space-lt-HEADS.false) (omega arith),
)
