-- The octet at the place, if there is one, decides.
use native.Mathlib.Omega.{arith}
use Rattle.fromkey.proofs.KeySymbols.{escape_none, escape_zero, escape_is}
use Rattle.fromkey.proofs.completes_escape.Goals as goal

pub returns-then-key-p : goal.returns-then-key-p
returns-then-key-p c = escape_none _ _ c.if-key-p.true

pub returns-then-o-eq0 : goal.returns-then-o-eq0
returns-then-o-eq0 c = let a = c.args in escape_zero a.key.now a.p (omega arith) c.if-o-eq0.true

pub returns : goal.returns
returns c = let a = c.args in escape_is a.key.now a.p (omega arith) c.if-o-eq0.false
