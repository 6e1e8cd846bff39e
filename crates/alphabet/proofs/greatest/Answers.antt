-- The greatest octet is 255 in the full alphabet, and in the small one the last entry of the table.
use mathlib.Core.Path.{sym, ◌∙◌}
use Rattle.zone.proofs.FullAlphabet.{greatest_full}
use Rattle.alphabet.specs.Alphabets.{ldh}
use Rattle.alphabet.proofs.Ldh.{greatest_ldh}
use Rattle.alphabet.proofs.greatest.Goals as goal

pub returns-in-Full : goal.returns-in-Full
returns-in-Full c = rw c.in-Full.is (sym greatest_full)

pub returns-in-Ldh : goal.returns-in-Ldh
unfolding ldh
returns-in-Ldh c = rw c.in-Ldh.is (c.entry.ensures ∙ sym greatest_ldh)
