-- `put_exact` meets its contract: the table has the characters of the octet, and what is no character is as it was.
use native.Mathlib.Omega.{arith}
use lib.ListN.{length-set}
use Rattle.space.specs.Fold.{lower_of}
use Rattle.text.proofs.Characters.{width_four}
use Rattle.totext.proofs.PutLabels.{entry_exact}
use Rattle.totext.proofs.escaped.put_exact.Goals.{then-n-gt0, else-n-gt0, then-n-gt1, else-n-gt1}
use Rattle.totext.proofs.escaped.put_exact.Goals as goal

pub overflow_cast-n : goal.overflow_cast-n
overflow_cast-n c = let entry = c.requires.lists c.args.o (omega arith) in
    omega (arith, entry.0, width_four (lower_of c.args.o))

pub bounds-space-at-5 : goal.bounds-space-at-5
bounds-space-at-5 c = simp length-set (omega (arith, c.requires.at_in_bounds))

pub bounds-space-at-6 : goal.bounds-space-at-6
bounds-space-at-6 c = simp length-set (omega (arith, c.requires.at_in_bounds))

pub bounds-space-at-7 : goal.bounds-space-at-7
bounds-space-at-7 c = simp length-set (omega (arith, c.requires.at_in_bounds))

pub overflow_add-result-2 : goal.overflow_add-result-2
overflow_add-result-2 c = let entry = c.requires.lists c.args.o (omega arith) in
    omega (arith, c.requires.at_in_bounds, entry.0, width_four (lower_of c.args.o))

pub returns : goal.returns
returns c = let entry = c.requires.lists c.args.o (omega arith) in
    entry_exact _ _ c.args.o _ _ _ _ _ _ _ c.requires.at_in_bounds entry
    (λ h. elim c.if-n-gt0.branch [ then-n-gt0 w ↦ w.second-is | else-n-gt0 w ↦ absurd (omega arith) ])
    (λ h. elim c.if-n-gt0.branch [ then-n-gt0 w ↦ absurd (omega arith) | else-n-gt0 w ↦ w.second-is ])
    (λ h. elim c.if-n-gt1.branch [ then-n-gt1 w ↦ (w.third-is, w.fourth-is) | else-n-gt1 w ↦ absurd (omega arith) ])
    (λ h. elim c.if-n-gt1.branch [ then-n-gt1 w ↦ absurd (omega arith) | else-n-gt1 w ↦ (w.third-is, w.fourth-is) ])
