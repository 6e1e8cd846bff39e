-- `find_fork` meets its contract: neither place passes those where the names come together (`Coming`), and where so many octets are left
-- behind both they are there.
use Prim.Native.Nat.{◌-◌}
use lib.ListN.{length}
use Rattle.enclosing.proofs.Forking.{Coming}
use Rattle.enclosing.proofs.forks.find_fork.Given as goal

abbrev pub invariant-loop-p : goal.invariant-loop-p
invariant-loop-p l = Coming l.s l.t l.same l.a l.p l.b l.q

abbrev pub decreases-loop-p : goal.decreases-loop-p
decreases-loop-p l = length l.s - l.p
