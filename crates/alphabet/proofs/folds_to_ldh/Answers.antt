-- The compares agree with the table at the folded octet, for each of the 256.
use native.Mathlib.Omega.{arith}
use Rattle.alphabet.proofs.Ldh.{folds_tests}
use Rattle.alphabet.proofs.folds_to_ldh.Goals as goal

pub returns : goal.returns
returns c = folds_tests c.args.octet (omega arith)
