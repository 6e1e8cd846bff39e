-- `climbed` meets its contract: the first label is extended (`plan_extends`), or what the climb finds is the plan.
use native.Mathlib.Omega.{arith}
use Rattle.facts.proofs.Parts.{part_rest}
use Rattle.name.proofs.LabelSteps.{inside}
use Rattle.alphabet.specs.Alphabets.{allowed}
use Rattle.plan.specs.Private.Asked.{climbed}
use Rattle.climbing.specs.Private.Raised.{Finds}
use Rattle.climbing.proofs.Planning.{extends_within, plan_extends}
use Rattle.climbing.proofs.climbed.Goals as goal

pub extends-requires : goal.extends-requires
extends-requires c = omega (arith, inside c.requires.climbs.ends)

pub extended-requires : goal.extended-requires
extended-requires c = extends_within c.requires c.extends.ensures c.if-extends.true

pub returns-then-extends : goal.returns-then-extends
returns-then-extends c = rw c.extended.ensures (plan_extends c.requires c.extends.ensures c.if-extends.true)

pub climb-requires : goal.climb-requires
climb-requires c = rw (part_rest c.args.name.now 0) c.requires

pub found_plan-requires : goal.found_plan-requires
found_plan-requires c = let finds : let o = allowed c.args.alphabet in
    Finds o c.args.name.now (climbed o c.args.name.now c.args.at c.args.cut c.args.limit) c.climb.result =
    rw (part_rest c.args.name.now 0) at c.climb.ensures in
    record { octets = _; finds = finds }

pub returns : goal.returns
returns c = let finds : let o = allowed c.args.alphabet in
    Finds o c.args.name.now (climbed o c.args.name.now c.args.at c.args.cut c.args.limit) c.climb.result =
    rw (part_rest c.args.name.now 0) at c.climb.ensures in
    c.found_plan.ensures _ finds
