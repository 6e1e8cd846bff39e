-- Octets are rewritten from the right, and what is carried into an octet is 1 exactly where the sum behind it wrapped.
use Rattle.hash.specs.Private.Below.{Below}
use Rattle.std.proofs.Common.{refl, rules, arith}
use Rattle.hash.proofs.Arrays.{array_octets}
use Rattle.hash.proofs.Walk.{rewritten_all}
use Rattle.hash.specs.Ring.{carried, after}
use Rattle.hash.proofs.Carrying.{handing_none, handing_stays, carry_stays, carry_one, carry_none}
use Rattle.hash.proofs.steps.hash_after.Goals.{else-sum-carry, then-sum-carry}
use Rattle.hash.proofs.steps.hash_after.Goals as goal

pub loop-i-init : goal.loop-i-init
unfolding after carried
loop-i-init c = handing_none c.args.hash 20 (search rules) refl refl

pub returns-then-carry-eq0 : goal.returns-then-carry-eq0
returns-then-carry-eq0 c = let h : Below 256 c.args.hash = search (array_octets, rules) in
    handing_stays carry_stays c.loop-i.invariant h (omega arith)

pub loop-i-preserved : goal.loop-i-preserved
loop-i-preserved c = let h : Below 256 c.args.hash = search (array_octets, rules) in
    elim c.if-sum-carry.branch [
      | then-sum-carry w ↦ rw w.carry-is (carry_one h c.loop-i-test.true c.loop-i.invariant _ refl w.if-sum-carry.true)
      | else-sum-carry w ↦ rw w.carry-is (carry_none h c.loop-i-test.true c.loop-i.invariant _ refl w.if-sum-carry.false)
    ]

pub returns : goal.returns
returns c = rewritten_all c.loop-i.invariant.walk c.loop-i-test.false
