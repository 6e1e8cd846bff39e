-- Each case of the enum is what the function for this alphabet promises; the full alphabet leaves out the upper-case letters alone.
use native.Mathlib.Omega.{arith}
use Rattle.std.proofs.lemmas.Bool.Decides.{nat_tests}
use Rattle.alphabet.proofs.includes.Goals as goal

pub returns-in-Full : goal.returns-in-Full
returns-in-Full c = rw (c.in-Full.is, c.is_ascii_uppercase.ensures.value) (grind (arith, nat_tests))

pub returns-in-Ldh : goal.returns-in-Ldh
returns-in-Ldh c = rw c.in-Ldh.is c.includes_ldh.ensures
