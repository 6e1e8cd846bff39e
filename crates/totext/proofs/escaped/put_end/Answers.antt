-- `put_end` meets its contract: the last two octets of the label, or its only one, are written with nothing behind them.
use Prim.Native.Nat.{◌+◌, ◌-◌, ◌*◌, ◌≤◌}
use native.Mathlib.Omega.{arith}
use lib.ListN.{get_or}
use Rattle.space.specs.Fold.{lower_of}
use Rattle.text.proofs.Characters.{width_four}
use Rattle.totext.proofs.PutLabels.{written_most, filling_one, filling_end}
use Rattle.totext.proofs.escaped.put_end.Goals as goal

pub returns-then-n-lt2 : goal.returns-then-n-lt2
returns-then-n-lt2 c = filling_one _ _ {n = c.args.n} (omega arith) c.requires.le_n.1 c.requires.le_n.2 c.put_exact.ensures

pub put_exact-f-requires-clause-at_in_bounds : goal.put_exact-f-requires-clause-at_in_bounds
put_exact-f-requires-clause-at_in_bounds c = let most : c.put_label-e.result ≤ c.args.at + 4 * (c.args.n - 2) = let a = c.args in
    written_most a.name.now a.from (a.n - 2) (omega arith) c.put_label-e.ensures in
    omega (arith, c.put_label-e.ensures.size, most)

pub put_exact-requires-2-clause-at_in_bounds : goal.put_exact-requires-2-clause-at_in_bounds
put_exact-requires-2-clause-at_in_bounds c = let most : c.put_label-e.result ≤ c.args.at + 4 * (c.args.n - 2) = let a = c.args in
    written_most a.name.now a.from (a.n - 2) (omega arith) c.put_label-e.ensures in
    let w = c.put_exact-f.ensures in
    let o = lower_of (get_or c.args.name.now (c.args.from + c.args.n - 2) 0) in
    omega (arith, c.put_label-e.ensures.size, most, w.size, w.ends, width_four o)

pub returns : goal.returns
returns c = filling_end c.args.name.now c.args.from (c.args.n - 2) c.put_label-e.ensures {n = c.args.n} (omega arith)
    c.requires.le_n.1 c.requires.le_n.2 {j = c.args.from + c.args.n - 2} (omega arith) c.put_exact-f.ensures
    {k = c.args.from + c.args.n - 1} (omega arith) c.put_exact-2.ensures
