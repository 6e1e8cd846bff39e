-- `first_octet` meets its contract: of no octets the first is the default.
use mathlib.Core.Path.{sym}
use native.Mathlib.Omega.{arith}
use lib.ListN.{get_or-eq_default}
use Rattle.checks.proofs.Standing.{within_same}
use Rattle.checks.proofs.walking.first_octet.Goals as goal

pub returns-then-name-eq0 : goal.returns-then-name-eq0
returns-then-name-eq0 c = sym (get_or-eq_default c.args.name.now 256 (omega arith))

pub returns : goal.returns
returns c = within_same c.args.name.now 0 (omega arith)
