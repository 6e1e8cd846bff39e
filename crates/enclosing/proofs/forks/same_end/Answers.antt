-- `same_end` meets its contract: the last c octets are the same (`Tail`), and either one more is, or they are all.
use mathlib.Core.Path.{◌≡◌}
use native.Mathlib.Omega.{arith}
use lib.ListN.{length}
use Rattle.enclosing.proofs.SameEnds.{ended, ended_second, one_more, differ}
use Rattle.enclosing.proofs.forks.same_end.Goals as goal

pub loop-c-init : goal.loop-c-init
loop-c-init c = let e = c.same_tail-c.ensures in record { first = e.0; second = e.1; same = e.2 }

pub returns-then-t-c : goal.returns-then-t-c
returns-then-t-c c = ended_second c.loop-c.invariant c.if-t-c.true

pub returns-then-x-y : goal.returns-then-x-y
returns-then-x-y c = differ c.loop-c.invariant (omega arith) (omega arith) _ _ c.lower-x.ensures c.lower-y.ensures c.if-x-y.true

pub loop-c-preserved : goal.loop-c-preserved
loop-c-preserved c = one_more c.loop-c.invariant (omega arith) (omega arith) _ _ c.lower-x.ensures c.lower-y.ensures c.if-x-y.false

pub returns : goal.returns
returns c = let all : c.loop-c.c ≡ length c.args.s.now = omega arith in
    rw all at (ended c.loop-c.invariant (omega arith))
