-- `within` meets its contract, by the three ways out.
use Prim.Native.Nat.{◌+◌}
use mathlib.Core.Path.{sym}
use native.Mathlib.Omega.{arith}
use borrow.Author.Tests.{le-leb, lt-leb}
use Rattle.space.proofs.within.Goals as goal

pub returns-then-len-at : goal.returns-then-len-at
returns-then-len-at c = let a = c.args in sym (lt-leb (a.at + a.n) a.len (omega arith))

pub returns-then-len-at-2 : goal.returns-then-len-at-2
returns-then-len-at-2 c = let a = c.args in sym (lt-leb (a.at + a.n) a.len (omega arith))

pub returns : goal.returns
returns c = let a = c.args in sym (le-leb (a.at + a.n) a.len (omega arith))
