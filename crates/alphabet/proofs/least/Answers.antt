-- The least octet is 0 in the full alphabet, and in the small one the first entry of the table.
use mathlib.Core.Path.{sym, ◌∙◌}
use Rattle.zone.proofs.FullAlphabet.{least_full}
use Rattle.alphabet.specs.Alphabets.{ldh}
use Rattle.alphabet.proofs.Ldh.{least_ldh}
use Rattle.alphabet.proofs.least.Goals as goal

pub returns-in-Full : goal.returns-in-Full
returns-in-Full c = rw c.in-Full.is (sym least_full)

pub returns-in-Ldh : goal.returns-in-Ldh
unfolding ldh
returns-in-Ldh c = rw c.in-Ldh.is (c.entry.ensures ∙ sym least_ldh)
