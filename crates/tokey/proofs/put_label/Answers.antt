-- `put_label` meets its contract: the label's octets are written before the 00 that closes it.
use Prim.Native.Nat.{◌+◌, ◌≤◌}
use native.Mathlib.Omega.{arith}
use Rattle.facts.proofs.Booleans.{both_true}
use Rattle.tokey.proofs.PutLabels.{label_fits, label_room, label_octets_lem, label_plain}
use Rattle.tokey.proofs.put_label.Goals as goal

pub overflow_sub-last : goal.overflow_sub-last
overflow_sub-last c = let fits : c.args.n + 1 ≤ c.args.end =
    label_fits c.args.name.now c.args.from c.args.n c.requires.n_in_bounds.0 c.requires.n_in_bounds.2 in
    omega (arith, fits)

pub bounds-space-last : goal.bounds-space-last
bounds-space-last c = let fits : c.args.n + 1 ≤ c.args.end =
    label_fits c.args.name.now c.args.from c.args.n c.requires.n_in_bounds.0 c.requires.n_in_bounds.2 in
    omega (arith, fits, c.requires.n_in_bounds.2.within)

pub overflow_sub-last-then-plain-n : goal.overflow_sub-last-then-plain-n
overflow_sub-last-then-plain-n c = let fits : c.args.n + 1 ≤ c.args.end =
    label_fits c.args.name.now c.args.from c.args.n c.requires.n_in_bounds.0 c.requires.n_in_bounds.2 in
    omega (arith, fits)

pub overflow_sub-result : goal.overflow_sub-result
overflow_sub-result c = let fits : c.args.n + 1 ≤ c.args.end =
    label_fits c.args.name.now c.args.from c.args.n c.requires.n_in_bounds.0 c.requires.n_in_bounds.2 in
    omega (arith, fits)

pub returns-then-plain-n : goal.returns-then-plain-n
returns-then-plain-n c = label_plain c.args.name.now c.args.from c.args.n c.requires.n_in_bounds.0 c.requires.n_in_bounds.2
    (c.requires.n_value (both_true _ _ c.if-plain-n.true).0)
    c.put_folded.ensures

pub put_octets-requires : goal.put_octets-requires
put_octets-requires c = (
  c.requires.n_in_bounds.0,
  c.requires.n_in_bounds.1,
  label_room c.args.name.now c.args.from c.args.n c.requires.n_in_bounds.0 c.requires.n_in_bounds.2,
)

pub returns : goal.returns
returns c = label_octets_lem c.args.name.now c.args.from c.args.n c.requires.n_in_bounds.0 c.requires.n_in_bounds.2 c.put_octets.ensures
