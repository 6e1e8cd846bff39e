-- `stands_for` meets its contract: a name of another number of octets is not the same (`unlike`), and one of as many is compared as it is
-- written (`written_same`).
use mathlib.Core.Path.{◌≡◌, ◌∙◌}
use native.Mathlib.Omega.{arith}
use lib.ListN.{length}
use Rattle.plan.specs.Private.Planned.{planned}
use Rattle.gapnames.proofs.Written.{size_length}
use Rattle.gapnames.proofs.Joining.{unlike, written_same}
use borrow.Author.Rules.{rules}
use Rattle.gapnames.proofs.stands_for.Goals as goal

pub returns-then-n-other : goal.returns-then-n-other
returns-then-n-other c = let counted : c.plan_len-n.result ≡ length (planned c.args.g c.args.name.now c.args.plan) =
    size_length c.args.g c.requires c.plan_len-n.ensures in
    let a = c.args in
    written_same (planned a.g a.name.now a.plan) _ c.put_plan.ensures
    (omega (arith, c.requires.few, counted, c.plan_len-n.ensures)) (search rules) counted a.other.now c.if-n-other.true
    c.same_folded.ensures

pub returns : goal.returns
returns c = let counted : c.plan_len-n.result ≡ length (planned c.args.g c.args.name.now c.args.plan) =
    size_length c.args.g c.requires c.plan_len-n.ensures in
    let a = c.args in
    unlike (planned a.g a.name.now a.plan) a.other.now (λ e. c.if-n-other.false (counted ∙ e))
