-- `case_bit` meets its contract: with the bit set, a letter is a small one, and no other octet is (`bit_letter`, `bit_above`, `bit_below`).
use native.Mathlib.Omega.{arith}
use Rattle.space.proofs.CaseBits.{bit_letter, bit_above, bit_below}
use Rattle.space.proofs.sameness.case_bit.Goals as goal

pub returns-then-l-le122 : goal.returns-then-l-le122
returns-then-l-le122 c = bit_letter c.args.o (omega arith) c.if-l-ge97.true (omega arith)

pub returns-else-l-le122 : goal.returns-else-l-le122
returns-else-l-le122 c = bit_above c.args.o (omega arith) c.if-l-ge97.true (omega arith)

pub returns-else-l-ge97 : goal.returns-else-l-ge97
returns-else-l-ge97 c = bit_below c.args.o (omega arith) c.if-l-ge97.false
