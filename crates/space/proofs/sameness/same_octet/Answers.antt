-- `same_octet` meets its contract: the first octet's bit tells in both (`same_with_bit`).
use mathlib.Core.Path.{refl}
use native.Mathlib.Omega.{arith}
use Rattle.space.proofs.CaseBits.{same_with_bit}
use Rattle.space.proofs.sameness.same_octet.Goals as goal

pub returns : goal.returns
returns c = let a = c.args in rw c.case_bit-bit.ensures (same_with_bit a.a a.b (omega arith) (omega arith) _ refl)
