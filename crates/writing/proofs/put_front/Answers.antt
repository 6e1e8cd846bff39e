-- `put_front` meets its contract: nothing to write, greatest octets alone, or the length octets over them (Preparing).
use native.Mathlib.Omega.{arith}
use Rattle.writing.proofs.Preparing.{prepared_left, prepared_filled, prepared_sized}
use Rattle.writing.proofs.put_front.Goals as goal

pub returns-then-front-gt0 : goal.returns-then-front-gt0
returns-then-front-gt0 c =
    prepared_sized _ _ _ _ _ (omega arith) (omega arith) c.fill.ensures c.put_sizes.ensures (omega arith) (omega arith)

pub returns-else-front-gt0 : goal.returns-else-front-gt0
returns-else-front-gt0 c = prepared_filled _ _ _ _ _ (omega arith) (omega arith) c.fill.ensures (omega arith)

pub returns-else-front-tail-gt1 : goal.returns-else-front-tail-gt1
returns-else-front-tail-gt1 c = prepared_left _ _ _ _ _ (omega arith) (omega arith) (omega arith) c.requires.1
