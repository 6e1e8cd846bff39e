-- `next_plan` meets its contract: what is past a name is a climb (`climbed_past`), as in `climbed`.
use Rattle.facts.proofs.Parts.{part_rest}
use Rattle.alphabet.specs.declared.Alphabet.TheVariants.{Full}
use Rattle.alphabet.specs.Alphabets.{allowed}
use Rattle.plan.specs.Private.Asked.{climbed}
use Rattle.climbing.specs.Private.Raised.{Finds}
use Rattle.climbing.proofs.Planning.{extends_within, plan_extends}
use Rattle.climbing.proofs.SuccessorPlans.{front_tries, climbed_past}
use Rattle.ends.proofs.next_plan.Goals as goal

pub extended-requires : goal.extended-requires
extended-requires c = extends_within (front_tries c.requires) c.extends.ensures c.if-extends.true

pub returns-then-extends : goal.returns-then-extends
returns-then-extends c = climbed_past _ _ _ _
    (rw c.extended.ensures (plan_extends (front_tries c.requires) c.extends.ensures c.if-extends.true))

pub climb-requires : goal.climb-requires
climb-requires c = rw (part_rest c.args.name.now 0) (front_tries c.requires)

pub found_plan-requires : goal.found_plan-requires
found_plan-requires c = let finds : let o = allowed Full in
    Finds o c.args.name.now (climbed o c.args.name.now 0 c.args.cut c.args.limit) c.climb.result =
    rw (part_rest c.args.name.now 0) at c.climb.ensures in
    record { octets = _; finds = finds }

pub returns : goal.returns
returns c = let finds : let o = allowed Full in
    Finds o c.args.name.now (climbed o c.args.name.now 0 c.args.cut c.args.limit) c.climb.result =
    rw (part_rest c.args.name.now 0) at c.climb.ensures in
    climbed_past _ _ _ _ (c.found_plan.ensures _ finds)
