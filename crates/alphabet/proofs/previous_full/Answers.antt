-- From 65 to 91 the previous octet is 64, and elsewhere it is one less; 0 has none.
use native.Mathlib.Omega.{arith}
use Rattle.alphabet.proofs.Full.{full_previous, full_previous_gap, full_previous_end}
use Rattle.alphabet.proofs.previous_full.Goals as goal

pub returns-then-octet-gt91 : goal.returns-then-octet-gt91
returns-then-octet-gt91 c = full_previous _ (λ a b. omega arith) (omega arith)

pub returns-then-octet-gt64 : goal.returns-then-octet-gt64
returns-then-octet-gt64 c = full_previous_gap _ (omega arith) (omega arith)

pub returns-then-octet-gt0 : goal.returns-then-octet-gt0
returns-then-octet-gt0 c = full_previous _ (λ a b. omega arith) (omega arith)

pub returns : goal.returns
returns c = full_previous_end _ (omega arith)
