-- Octets are rewritten from the right, and one is borrowed from an octet exactly where the one behind it was too small.
use Rattle.hash.specs.Private.Below.{Below}
use Rattle.std.proofs.Common.{refl, rules, arith}
use Rattle.hash.proofs.Arrays.{array_octets}
use Rattle.hash.proofs.Walk.{rewritten_all}
use Rattle.hash.specs.Ring.{borrowed, before}
use Rattle.hash.proofs.Carrying.{handing_none, handing_stays, borrow_stays, borrow_one, borrow_none}
use Rattle.hash.proofs.steps.hash_before.Goals.{else-octet-borrow, then-octet-borrow}
use Rattle.hash.proofs.steps.hash_before.Goals as goal

pub loop-i-init : goal.loop-i-init
unfolding before borrowed
loop-i-init c = handing_none c.args.hash 20 (search rules) refl refl

pub returns-then-borrow-eq0 : goal.returns-then-borrow-eq0
returns-then-borrow-eq0 c = let h : Below 256 c.args.hash = search (array_octets, rules) in
    handing_stays borrow_stays c.loop-i.invariant h c.if-borrow-eq0.true

pub loop-i-preserved : goal.loop-i-preserved
loop-i-preserved c = let h : Below 256 c.args.hash = search (array_octets, rules) in
    elim c.if-octet-borrow.branch [
      | then-octet-borrow w ↦ rw w.borrow-is
          (borrow_one h c.loop-i-test.true c.loop-i.invariant _ (omega arith) (omega arith) w.if-octet-borrow.true)
      | else-octet-borrow w ↦ rw w.borrow-is
          (borrow_none h c.loop-i-test.true c.loop-i.invariant _ (omega arith) (omega arith) w.if-octet-borrow.false)
    ]

pub returns : goal.returns
returns c = rewritten_all c.loop-i.invariant.walk c.loop-i-test.false
