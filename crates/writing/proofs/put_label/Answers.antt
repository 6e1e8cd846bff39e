-- `put_label` meets its contract: the octets kept, the octet behind them and the length octet before them (`label_put`).
use native.Mathlib.Omega.{arith}
use lib.ListN.{length-set}
use Rattle.writing.proofs.LabelWriting.{label_put}
use Rattle.writing.proofs.put_label.Goals as goal

pub bounds-d-at : goal.bounds-d-at
bounds-d-at c = omega (arith, c.put_kept.ensures.size)

pub bounds-d-at-2 : goal.bounds-d-at-2
bounds-d-at-2 c = simp length-set (omega (arith, c.put_kept.ensures.size))

pub returns : goal.returns
returns c = label_put _ _ _ _ c.put_kept.ensures
