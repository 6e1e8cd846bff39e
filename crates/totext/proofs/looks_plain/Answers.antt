-- `looks_plain` meets its contract: the first label of the name has its last octet inside the name.
use native.Mathlib.Omega.{arith}
use Rattle.name.proofs.LabelSteps.{stands}
use Rattle.text.proofs.TextSteps.{label_within}
use Rattle.totext.proofs.looks_plain.Goals as goal

pub bounds-name-n : goal.bounds-name-n
bounds-name-n c = omega (arith, label_within _ 0 (stands _ c.requires.0) c.requires.1)
