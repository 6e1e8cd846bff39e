-- `put_four` meets its contract: the table has the characters of the octet, and tells how many they are.
use native.Mathlib.Omega.{arith}
use lib.ListN.{length-set}
use Rattle.space.specs.Fold.{lower_of}
use Rattle.text.proofs.Characters.{width_four}
use Rattle.totext.proofs.PutLabels.{entry_written}
use Rattle.totext.proofs.escaped.put_four.Goals as goal

pub bounds-space-at-2 : goal.bounds-space-at-2
bounds-space-at-2 c = simp length-set (omega (arith, c.requires.at_in_bounds))

pub bounds-space-at-3 : goal.bounds-space-at-3
bounds-space-at-3 c = simp length-set (omega (arith, c.requires.at_in_bounds))

pub bounds-space-at-4 : goal.bounds-space-at-4
bounds-space-at-4 c = simp length-set (omega (arith, c.requires.at_in_bounds))

pub overflow_cast-result : goal.overflow_cast-result
overflow_cast-result c = let entry = c.requires.lists c.args.o (omega arith) in
    omega (arith, entry.0, width_four (lower_of c.args.o))

pub overflow_add-result-2 : goal.overflow_add-result-2
overflow_add-result-2 c = let entry = c.requires.lists c.args.o (omega arith) in
    omega (arith, c.requires.at_in_bounds, entry.0, width_four (lower_of c.args.o))

pub returns : goal.returns
returns c = let entry = c.requires.lists c.args.o (omega arith) in
    entry_written _ _ c.args.o _ _ _ _ c.requires.at_in_bounds entry
