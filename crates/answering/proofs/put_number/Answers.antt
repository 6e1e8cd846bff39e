-- The four octets of the field are stored one after the other, where there is room for them.
use mathlib.Core.Path.{refl}
use mathlib.Core.List.{[], ◌∷◌}
use native.Mathlib.Omega.{arith}
use lib.ListN.{length-set}
use Rattle.name.proofs.Answers.{fills_no_room, fills_answer}
use Rattle.space.proofs.Written.{written_stored, written_front}
use Rattle.answering.proofs.put_number.Goals as goal

pub returns-then-space-lt4 : goal.returns-then-space-lt4
returns-then-space-lt4 c = fills_no_room refl c.if-space-lt4.true

pub bounds-space-1 : goal.bounds-space-1
bounds-space-1 c = simp length-set (omega arith)

pub bounds-space-2 : goal.bounds-space-2
bounds-space-2 c = simp length-set (omega arith)

pub returns : goal.returns
returns c = let a = c.args in
    fills_answer refl refl c.if-space-lt4.false
    (written_front (written_stored a.space.now 0 (16 ∷ 0 ∷ 1 ∷ a.n ∷ []) refl c.if-space-lt4.false) (omega arith))
