-- `put_label` meets its contract: the characters of the first i octets are written, and the next are written behind them.
use Prim.Native.Nat.{◌+◌}
use Rattle.totext.proofs.PutLabels.{Filling}
use Rattle.totext.proofs.escaped.put_label.Given as goal

abbrev pub invariant-loop-i : goal.invariant-loop-i
invariant-loop-i l = Filling l.initial.space l.at l.name l.from l.i l.space l.end (l.end + 3)
