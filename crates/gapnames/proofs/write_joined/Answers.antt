-- `write_joined` meets its contract: each way through the tests is a case of the gaps that touch or do not. A gap does not touch another
-- where its end has another number of octets (`unlike`), or where it is compared and is not the same.
use mathlib.Core.Bool.{false}
use mathlib.Core.Path.{◌≡◌, sym, ◌∙◌}
use Rattle.gaps.specs.Denial.{is_same}
use Rattle.plan.specs.Private.Planned.{planned}
use Rattle.gapnames.specs.Private.Named.{wild_plan}
use Rattle.gapnames.proofs.Written.{size_length}
use Rattle.gapnames.proofs.Joining.{joined_behind, joined_before, joined_apart, unlike, unlike_wild}
use borrow.Author.Rules.{rules}
use Rattle.gapnames.proofs.write_joined.Goals as goal
use Rattle.gapnames.proofs.write_joined.Goals.{then-plan_len-name+else-stands_for_wild, else-plan_len-name}
use Rattle.gapnames.proofs.write_joined.Goals.{then-plan_len-name-2+else-stands_for, else-plan_len-name-2}

pub returns-then-stands_for_wild : goal.returns-then-stands_for_wild
returns-then-stands_for_wild c = search (joined_behind, rules)

pub returns-then-stands_for : goal.returns-then-stands_for
returns-then-stands_for c = let first_apart : false
    ≡ is_same (planned c.args.g c.args.name.now c.args.b) (planned c.args.g c.args.name.now (wild_plan c.args.rest)) = let a = c.args in
    elim c.if-plan_len-name.branch [
      | then-plan_len-name+else-stands_for_wild w ↦ sym w.if-stands_for_wild.false ∙ w.stands_for_wild.ensures
      | else-plan_len-name w ↦ unlike_wild a.g c.requires.0 c.requires.2 c.plan_len.ensures w.if-plan_len-name.false
    ] in
    let f = first_apart in
    search (joined_before, rules)

pub returns : goal.returns
returns c = let first_apart : false
    ≡ is_same (planned c.args.g c.args.name.now c.args.b) (planned c.args.g c.args.name.now (wild_plan c.args.rest)) = let a = c.args in
    elim c.if-plan_len-name.branch [
      | then-plan_len-name+else-stands_for_wild w ↦ sym w.if-stands_for_wild.false ∙ w.stands_for_wild.ensures
      | else-plan_len-name w ↦ unlike_wild a.g c.requires.0 c.requires.2 c.plan_len.ensures w.if-plan_len-name.false
    ] in
    let second_apart : false ≡ is_same (planned 0 c.args.name.now c.args.d) c.args.name.now = let a = c.args in
    elim c.if-plan_len-name-2.branch [
      | then-plan_len-name-2+else-stands_for w ↦ sym w.if-stands_for.false ∙ w.stands_for.ensures
      | else-plan_len-name-2 w ↦
          unlike (planned 0 a.name.now a.d) a.name.now
          (λ e. w.if-plan_len-name-2.false (size_length 0 c.requires.4 c.plan_len-2.ensures ∙ e))
    ] in
    let f = first_apart in
    let g = second_apart in
    search (joined_apart, rules)
