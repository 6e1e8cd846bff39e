-- `write_one` meets its contract: two names put one behind the other are the front of the space (`one_written`).
use mathlib.Core.Path.{◌≡◌}
use lib.ListN.{length}
use Rattle.plan.specs.Private.Planned.{planned}
use Rattle.gapnames.proofs.Written.{size_length, one_no_room, one_written}
use Rattle.gapnames.proofs.write_one.Goals as goal

pub returns-then-space-i : goal.returns-then-space-i
returns-then-space-i c = let first_size : c.plan_len-i.result ≡ length (planned c.args.g c.args.name.now c.args.a) =
    size_length _ c.requires.0 c.plan_len-i.ensures in
    let second_size : c.plan_len-j.result ≡ length (planned c.args.h c.args.name.now c.args.b) =
    size_length _ c.requires.1 c.plan_len-j.ensures in
    one_no_room _ _ first_size second_size c.if-space-i.true

pub returns : goal.returns
returns c = let first_size : c.plan_len-i.result ≡ length (planned c.args.g c.args.name.now c.args.a) =
    size_length _ c.requires.0 c.plan_len-i.ensures in
    let second_size : c.plan_len-j.result ≡ length (planned c.args.h c.args.name.now c.args.b) =
    size_length _ c.requires.1 c.plan_len-j.ensures in
    one_written _ _ first_size second_size c.if-space-i.false c.put_plan.ensures c.put_plan-2.ensures
