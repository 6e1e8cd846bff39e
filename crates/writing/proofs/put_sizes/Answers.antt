-- `put_sizes` meets its contract: the length octets are set one after the other.
use native.Mathlib.Omega.{arith}
use lib.ListN.{length-set}
use Rattle.writing.proofs.LengthOctets.{sizes_set}
use Rattle.writing.proofs.put_sizes.Goals as goal

pub bounds-d-saturating_sub-2 : goal.bounds-d-saturating_sub-2
bounds-d-saturating_sub-2 c = simp length-set (omega (arith, c.saturating_sub-2.ensures))

pub bounds-d-saturating_sub-3 : goal.bounds-d-saturating_sub-3
bounds-d-saturating_sub-3 c = simp length-set (omega (arith, c.saturating_sub-3.ensures))

pub bounds-d-0 : goal.bounds-d-0
bounds-d-0 c = simp length-set (omega arith)

pub returns : goal.returns
returns c = sizes_set c.args.d.now _ _ _ _ c.saturating_sub.ensures c.saturating_sub-2.ensures c.saturating_sub-3.ensures
