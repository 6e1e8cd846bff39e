-- `put_label` meets its contract: the characters of the first i octets are written, and the next are written behind them.
use mathlib.Core.Path.{refl}
use native.Mathlib.Omega.{arith}
use Rattle.totext.proofs.PutLabels.{filling_none, filling_most, filling_four}
use Rattle.totext.proofs.escaped.put_label.Goals as goal

pub loop-i-init : goal.loop-i-init
loop-i-init c = filling_none _ _ _ _ (omega arith) (omega arith) (omega arith)

pub put_four-end-requires-clause-at_in_bounds : goal.put_four-end-requires-clause-at_in_bounds
put_four-end-requires-clause-at_in_bounds c = omega (arith, filling_most c.loop-i.invariant)

pub loop-i-preserved : goal.loop-i-preserved
loop-i-preserved c =
    filling_four c.loop-i.invariant refl (omega arith) (omega arith) c.requires.n_in_bounds.0 c.requires.n_in_bounds.1
    c.put_four-end.ensures
