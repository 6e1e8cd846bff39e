-- `stands_for_wild` meets its contract: the wildcard stands in an array (`same_written`), and the plan is compared with it.
use mathlib.Core.Path.{◌≡◌, sym, ap, subst, ◌∙◌}
use native.Mathlib.Omega.{arith}
use lib.ListN.{length}
use lib.Seq.{length-take-le}
use Rattle.plan.specs.declared.Plan.{Plan}
use Rattle.plan.specs.Private.Planned.{planned}
use Rattle.gaps.specs.Denial.{is_same}
use Rattle.gapnames.specs.Private.Named.{Writable}
use Rattle.gapnames.proofs.Written.{size_length}
use Rattle.gapnames.proofs.Joining.{same_written}
use borrow.Author.Rules.{rules}
use Rattle.gapnames.proofs.stands_for_wild.Goals as goal

pub plan_len-n-requires : goal.plan_len-n-requires
plan_len-n-requires c = let wild : Writable c.args.name.now c.wild_plan-wild.result =
    subst (Writable c.args.name.now) (sym c.wild_plan-wild.ensures) c.requires.1 in
    wild.feasible

pub put_plan-requires : goal.put_plan-requires
put_plan-requires c = let wild : Writable c.args.name.now c.wild_plan-wild.result =
    subst (Writable c.args.name.now) (sym c.wild_plan-wild.ensures) c.requires.1 in
    let w = wild in (w.feasible, omega (arith, w.few))

pub slice_bounds-a-end : goal.slice_bounds-a-end
slice_bounds-a-end c = let wild : Writable c.args.name.now c.wild_plan-wild.result =
    subst (Writable c.args.name.now) (sym c.wild_plan-wild.ensures) c.requires.1 in
    omega (arith, wild.few, c.plan_len-n.ensures, c.put_plan.auto.space)

pub slice_bounds-stands_for-end : goal.slice_bounds-stands_for-end
slice_bounds-stands_for-end c = let wild : Writable c.args.name.now c.wild_plan-wild.result =
    subst (Writable c.args.name.now) (sym c.wild_plan-wild.ensures) c.requires.1 in
    sym (length-take-le _ _ (omega (arith, wild.few, c.plan_len-n.ensures, c.put_plan.auto.space)))

pub returns : goal.returns
returns c = let wild : Writable c.args.name.now c.wild_plan-wild.result =
    subst (Writable c.args.name.now) (sym c.wild_plan-wild.ensures) c.requires.1 in
    let counted : c.plan_len-n.result ≡ length (planned c.args.g c.args.name.now c.wild_plan-wild.result) =
    let wild : Writable c.args.name.now c.wild_plan-wild.result =
    subst (Writable c.args.name.now) (sym c.wild_plan-wild.ensures) c.requires.1 in
    size_length c.args.g wild c.plan_len-n.ensures in
    let a = c.args in
    same_written (planned a.g a.name.now c.wild_plan-wild.result) _ c.put_plan.ensures
    (omega (arith, wild.few, counted, c.plan_len-n.ensures)) (search rules) counted
    (planned a.g a.name.now a.plan) c.stands_for.ensures
    ∙ ap (λ (q : Plan). is_same (planned a.g a.name.now a.plan) (planned a.g a.name.now q)) c.wild_plan-wild.ensures
