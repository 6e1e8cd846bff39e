-- `put_word` meets its contract: the characters before the k-th are copied.
use mathlib.Core.Path.{refl, sym}
use Prim.Native.Nat.{◌≤◌}
use native.Mathlib.Omega.{arith}
use lib.ListN.{length, drop, length-drop}
use lib.Seq.{length-take-le}
use Rattle.facts.proofs.Parts.{part_at}
use Rattle.space.proofs.Putting.{copied_none, copied_more, copied_all}
use Rattle.fromtext.proofs.runs.put_word.Goals as goal

pub loop-k-init : goal.loop-k-init
loop-k-init c = let a = c.args in
    let few : 8 ≤ length (drop a.p a.text.now) = omega (arith, length-drop a.p a.text.now, c.requires.2) in
    (omega arith, copied_none _ _ _ (length-take-le 8 (drop a.p a.text.now) few) (omega (arith, c.requires)))

pub overflow_add-octets-in-loop-k : goal.overflow_add-octets-in-loop-k
overflow_add-octets-in-loop-k c = omega (arith, c.requires)

pub bounds-octets-at : goal.bounds-octets-at
bounds-octets-at c = omega (arith, c.requires, c.loop-k.invariant.1.partly.written.size)

pub loop-k-preserved : goal.loop-k-preserved
loop-k-preserved c = let a = c.args in
    (omega arith, copied_more c.loop-k.invariant.1 _ _ (omega arith) refl (sym (part_at a.text.now a.p 8 c.loop-k.k 0 (omega arith))))

pub returns : goal.returns
returns c = copied_all c.loop-k.invariant.1 c.loop-k-test.false
