-- `owner_plan` meets its contract: each return is a plan of PredecessorPlans, where any number of labels may stand in front.
use mathlib.Core.Logic.{inr}
use native.Mathlib.Omega.{arith}
use Prim.Native.Nat.{◌+◌, ◌≤◌, ◌<◌}
use lib.ListN.{length, get_or}
use Rattle.checks.specs.Private.Boundary.{upper}
use Rattle.plan.specs.Private.Asked.{Allows}
use Rattle.plan.proofs.PredecessorPlans.{first_label_lem, plan_lowered, plan_shortened, plan_parent, previous_some, previous_none}
use Rattle.ends.proofs.owner_plan.Goals as goal

pub bounds-name-size : goal.bounds-name-size
bounds-name-size c = let first : let n = c.args.name.now in
    (1 ≤ get_or n 0 0) × (get_or n 0 0 ≤ 63) × (get_or n 0 0 + 1 < length n) = first_label_lem c.requires.0.begins c.requires.1 in
    omega (arith, first)

pub padding-pad-requires : goal.padding-pad-requires
padding-pad-requires c = let first : let n = c.args.name.now in
    (1 ≤ get_or n 0 0) × (get_or n 0 0 ≤ 63) × (get_or n 0 0 + 1 < length n) = first_label_lem c.requires.0.begins c.requires.1 in
    omega (arith, first)

pub overflow_sub-result : goal.overflow_sub-result
overflow_sub-result c = let first : let n = c.args.name.now in
    (1 ≤ get_or n 0 0) × (get_or n 0 0 ≤ 63) × (get_or n 0 0 + 1 < length n) = first_label_lem c.requires.0.begins c.requires.1 in
    omega (arith, first)

pub overflow_add-result-then-octet-last : goal.overflow_add-result-then-octet-last
overflow_add-result-then-octet-last c = let first : let n = c.args.name.now in
    (1 ≤ get_or n 0 0) × (get_or n 0 0 ≤ 63) × (get_or n 0 0 + 1 < length n) = first_label_lem c.requires.0.begins c.requires.1 in
    omega (arith, first)

pub returns-then-octet-last : goal.returns-then-octet-last
returns-then-octet-last c = let any : Allows 127 (length (upper c.args.name.now c.args.cut)) 127 = inr (omega arith, omega arith) in
    rw c.padding-pad.ensures
    (plan_lowered _ c.requires.0.begins _ any c.requires.1 _ _
    (rw c.lower-last.ensures at (previous_some _ _ _ c.previous_full-octet.ensures c.if-octet-last.true))
    (rw c.padding-pad.ensures at c.front_len.ensures))

pub returns-then-size-eq1 : goal.returns-then-size-eq1
returns-then-size-eq1 c = let any : Allows 127 (length (upper c.args.name.now c.args.cut)) 127 = inr (omega arith, omega arith) in
    rw c.unchanged.ensures
    (plan_parent _ c.requires.0.begins _ any c.requires.1
    (rw c.lower-last.ensures at (previous_none _ _ _ c.previous_full-octet.ensures c.if-octet-last.false)) c.if-size-eq1.true)

pub overflow_sub-result-2 : goal.overflow_sub-result-2
overflow_sub-result-2 c = let first : let n = c.args.name.now in
    (1 ≤ get_or n 0 0) × (get_or n 0 0 ≤ 63) × (get_or n 0 0 + 1 < length n) = first_label_lem c.requires.0.begins c.requires.1 in
    omega (arith, first)

pub overflow_sub-size : goal.overflow_sub-size
overflow_sub-size c = let first : let n = c.args.name.now in
    (1 ≤ get_or n 0 0) × (get_or n 0 0 ≤ 63) × (get_or n 0 0 + 1 < length n) = first_label_lem c.requires.0.begins c.requires.1 in
    omega (arith, first)

pub bounds-name-size-2 : goal.bounds-name-size-2
bounds-name-size-2 c = let first : let n = c.args.name.now in
    (1 ≤ get_or n 0 0) × (get_or n 0 0 ≤ 63) × (get_or n 0 0 + 1 < length n) = first_label_lem c.requires.0.begins c.requires.1 in
    omega (arith, first)

pub overflow_add-result-2 : goal.overflow_add-result-2
overflow_add-result-2 c = let first : let n = c.args.name.now in
    (1 ≤ get_or n 0 0) × (get_or n 0 0 ≤ 63) × (get_or n 0 0 + 1 < length n) = first_label_lem c.requires.0.begins c.requires.1 in
    omega (arith, first)

pub returns : goal.returns
returns c = let first : let n = c.args.name.now in
    (1 ≤ get_or n 0 0) × (get_or n 0 0 ≤ 63) × (get_or n 0 0 + 1 < length n) = first_label_lem c.requires.0.begins c.requires.1 in
    let any : Allows 127 (length (upper c.args.name.now c.args.cut)) 127 = inr (omega arith, omega arith) in
    rw c.lower.ensures
    (plan_shortened _ c.requires.0.begins _ any c.requires.1 _
    (rw c.lower-last.ensures at (previous_none _ _ _ c.previous_full-octet.ensures c.if-octet-last.false)) (omega (arith, first))
    c.front_len-2.ensures)
