-- `count_unbroken` meets its contract: the owners before an index do not break the list (`Counted`).
use Rattle.owners.specs.Layout.{owners_of}
use Rattle.checkowners.proofs.Counting.{Counted}
use Rattle.checkowners.proofs.count_unbroken.Given as goal

abbrev pub invariant-loop-i : goal.invariant-loop-i
invariant-loop-i l = Counted l.apex l.limit (owners_of l.names l.starts) l.i
