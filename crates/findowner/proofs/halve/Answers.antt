-- `halve` meets its contract: the loop is the halving of the indexes that are left (`At`).
use mathlib.Core.Path.{◌≡◌, ap, ◌∙◌}
use Rattle.name.specs.Answer.{answer}
use Rattle.owners.specs.Layout.{owners_of}
use Rattle.owners.specs.Answers.{look_in}
use Rattle.owners.proofs.Halvings.{middle}
use Rattle.findowner.proofs.Turns.{sees, at_start, at_end_lem, at_above, at_below, at_broken}
use Rattle.findowner.proofs.halve.Goals as goal
use Rattle.findowner.proofs.halve.Goals.{in-NotAfter, in-After}

pub loop-low-init : goal.loop-low-init
loop-low-init c = at_start _ _ _

pub look_marked-seen-requires : goal.look_marked-seen-requires
look_marked-seen-requires c = c.requires

pub returns-in-Broken : goal.returns-in-Broken
returns-in-Broken c = let seen : look_in (owners_of c.args.names.now c.args.starts.now) c.args.query.now
    (middle c.loop-low.low c.loop-low.high) ≡ c.look_marked-seen.result = let a = c.args in
    sees a.names.now a.starts.now a.query.now (middle c.loop-low.low c.loop-low.high) _ _ c.requires.whole
    c.owner_at-owner.ensures c.look_marked-seen.ensures in
    at_broken c.loop-low.invariant c.loop-low-test.true (seen ∙ c.in-Broken.is)

pub loop-low-preserved : goal.loop-low-preserved
loop-low-preserved c = let seen : look_in (owners_of c.args.names.now c.args.starts.now) c.args.query.now
    (middle c.loop-low.low c.loop-low.high) ≡ c.look_marked-seen.result = let a = c.args in
    sees a.names.now a.starts.now a.query.now (middle c.loop-low.low c.loop-low.high) _ _ c.requires.whole
    c.owner_at-owner.ensures c.look_marked-seen.ensures in
    let i = c.loop-low.invariant in
    let h = c.loop-low-test.true in
    elim c.match-seen.branch [
      | in-NotAfter w ↦ rw (w.low-is, w.high-is) (at_above i h (seen ∙ w.in-NotAfter.is))
      | in-After w ↦ rw (w.low-is, w.high-is) (at_below i h (seen ∙ w.in-After.is))
    ]

pub returns : goal.returns
returns c = ap answer c.found_below.ensures ∙ at_end_lem c.loop-low.invariant c.loop-low-test.false
