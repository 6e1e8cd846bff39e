-- The compares agree with the table at each of the 256 octets.
use native.Mathlib.Omega.{arith}
use borrow.Author.Tests.{lt-ltb, le-ltb, ne_eqb}
use Rattle.alphabet.proofs.Ldh.{ldh_tests}
use Rattle.alphabet.proofs.includes_ldh.Goals as goal

pub returns-then-octet-lt45 : goal.returns-then-octet-lt45
returns-then-octet-lt45 c = let o = c.args.octet in
    rw (ldh_tests o (omega arith), lt-ltb o 48 (omega arith), ne_eqb o 45 (λ e. omega arith))

pub returns-then-octet-lt48 : goal.returns-then-octet-lt48
returns-then-octet-lt48 c = let o = c.args.octet in rw (ldh_tests o (omega arith), lt-ltb o 48 (omega arith))

pub returns-then-octet-lt97 : goal.returns-then-octet-lt97
returns-then-octet-lt97 c = let o = c.args.octet in
    rw (ldh_tests o (omega arith), le-ltb o 48 (omega arith), lt-ltb o 97 (omega arith))

pub returns : goal.returns
returns c = let o = c.args.octet in
    rw (ldh_tests o (omega arith), le-ltb o 48 (omega arith), le-ltb o 97 (omega arith))
