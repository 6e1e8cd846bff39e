-- `write_two` meets its contract: four names put one behind the other are the front of the space (`two_written`).
use mathlib.Core.Path.{◌≡◌}
use lib.ListN.{length}
use Rattle.plan.specs.Private.Planned.{planned}
use Rattle.gapnames.proofs.Written.{size_length, two_no_room, two_written}
use Rattle.gapnames.proofs.write_two.Goals as goal

pub returns-then-space-q : goal.returns-then-space-q
returns-then-space-q c = let size_a : c.plan_len-i.result ≡ length (planned c.args.g c.args.name.now c.args.a) =
    size_length _ c.requires.0 c.plan_len-i.ensures in
    let size_b : c.plan_len-j.result ≡ length (planned c.args.g c.args.name.now c.args.b) =
    size_length _ c.requires.1 c.plan_len-j.ensures in
    let size_c : c.plan_len-k.result ≡ length (planned c.args.g c.args.name.now c.args.c) =
    size_length _ c.requires.2 c.plan_len-k.ensures in
    let size_d : c.plan_len-l.result ≡ length (planned 0 c.args.name.now c.args.d) = size_length _ c.requires.3 c.plan_len-l.ensures in
    two_no_room _ _ _ _ size_a size_b size_c size_d c.if-space-q.true

pub returns : goal.returns
returns c = let size_a : c.plan_len-i.result ≡ length (planned c.args.g c.args.name.now c.args.a) =
    size_length _ c.requires.0 c.plan_len-i.ensures in
    let size_b : c.plan_len-j.result ≡ length (planned c.args.g c.args.name.now c.args.b) =
    size_length _ c.requires.1 c.plan_len-j.ensures in
    let size_c : c.plan_len-k.result ≡ length (planned c.args.g c.args.name.now c.args.c) =
    size_length _ c.requires.2 c.plan_len-k.ensures in
    let size_d : c.plan_len-l.result ≡ length (planned 0 c.args.name.now c.args.d) = size_length _ c.requires.3 c.plan_len-l.ensures in
    two_written _ _ _ _ size_a size_b size_c size_d c.if-space-q.false
    c.put_plan.ensures c.put_plan-2.ensures c.put_plan-3.ensures c.put_plan-4.ensures
