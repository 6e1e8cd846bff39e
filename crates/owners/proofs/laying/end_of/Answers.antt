-- `end_of` meets its contract: the next start is there, or the end of the names stands for it.
use mathlib.Core.Path.{sym}
use Prim.Native.Nat.{◌+◌}
use lib.ListN.{length, get_or-eq_default}
use Rattle.owners.proofs.Layouts.{get_d_any}
use Rattle.owners.proofs.laying.end_of.Goals as goal

pub returns-then-next-starts : goal.returns-then-next-starts
returns-then-next-starts c = let a = c.args in
    get_d_any a.starts.now (a.i + 1) 0 (length a.names.now) c.if-next-starts.true

pub returns : goal.returns
returns c = let a = c.args in
    sym (get_or-eq_default a.starts.now (length a.names.now) c.if-next-starts.false)
