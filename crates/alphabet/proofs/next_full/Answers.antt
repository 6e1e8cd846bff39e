-- From 64 to 90 the next octet is 91, and elsewhere it is one more; 255 has none.
use native.Mathlib.Omega.{arith}
use Rattle.alphabet.proofs.Full.{full_next, full_next_gap, full_next_end}
use Rattle.alphabet.proofs.next_full.Goals as goal

pub returns-then-octet-lt64 : goal.returns-then-octet-lt64
returns-then-octet-lt64 c = full_next _ (λ a b. omega arith) (omega arith)

pub returns-then-octet-le90 : goal.returns-then-octet-le90
returns-then-octet-le90 c = full_next_gap _ (omega arith) (omega arith)

pub returns-then-octet-lt255 : goal.returns-then-octet-lt255
returns-then-octet-lt255 c = full_next _ (λ a b. omega arith) (omega arith)

pub returns : goal.returns
returns c = full_next_end _ (omega arith)
