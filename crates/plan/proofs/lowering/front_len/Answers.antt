-- `front_len` meets its contract: each return is a case of `Taken`.
use native.Mathlib.Omega.{arith}
use Rattle.plan.specs.Private.Greatest.{full_labels_lem, all_but_one, all_octets_lem}
use mathlib.Core.Path.{refl}
use Rattle.plan.proofs.lowering.front_len.Goals as goal

pub returns-then-k-left : goal.returns-then-k-left
returns-then-k-left c = full_labels_lem (omega arith) refl

pub returns-then-left-eq1 : goal.returns-then-left-eq1
returns-then-left-eq1 c = all_but_one (omega arith) c.if-left-eq1.true refl

pub returns : goal.returns
returns c = all_octets_lem (omega arith) c.if-left-eq1.false refl
