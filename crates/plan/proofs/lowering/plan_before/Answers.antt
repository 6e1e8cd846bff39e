-- `plan_before` meets its contract: each return is a plan of PredecessorPlans.
use native.Mathlib.Omega.{arith}
use Prim.Native.Nat.{◌+◌, ◌≤◌, ◌<◌}
use lib.ListN.{length, get_or}
use Rattle.checks.proofs.LastAbove.{last_all}
use Rattle.plan.proofs.PredecessorPlans.{plan_stripped, first_label_lem, plan_last, plan_lowered, plan_shortened, plan_parent}
use Rattle.plan.proofs.PredecessorPlans.{previous_some, previous_none}
use Rattle.plan.proofs.lowering.plan_before.Goals as goal

pub returns-then-at-gt0 : goal.returns-then-at-gt0
returns-then-at-gt0 c = rw c.unchanged.ensures (plan_stripped _ c.requires c.if-at-gt0.true)

pub more-k-requires : goal.more-k-requires
more-k-requires c = let q = c.requires in (q.boundary, last_all q.last (omega arith))

pub returns-then-cut-eq0 : goal.returns-then-cut-eq0
returns-then-cut-eq0 c =
    rw c.unchanged-then-cut-eq0.ensures (plan_last _ c.requires _ c.more-k.ensures c.if-cut-eq0.true _ c.front_len.ensures)

pub bounds-name-size : goal.bounds-name-size
bounds-name-size c = let first : let s = c.args.name.now in
    (1 ≤ get_or s 0 0) × (get_or s 0 0 ≤ 63) × (get_or s 0 0 + 1 < length s) = first_label_lem c.requires (omega arith) in
    omega (arith, first)

pub padding-pad-requires : goal.padding-pad-requires
padding-pad-requires c = let first : let s = c.args.name.now in
    (1 ≤ get_or s 0 0) × (get_or s 0 0 ≤ 63) × (get_or s 0 0 + 1 < length s) = first_label_lem c.requires (omega arith) in
    omega (arith, first)

pub overflow_sub-result : goal.overflow_sub-result
overflow_sub-result c = let first : let s = c.args.name.now in
    (1 ≤ get_or s 0 0) × (get_or s 0 0 ≤ 63) × (get_or s 0 0 + 1 < length s) = first_label_lem c.requires (omega arith) in
    omega (arith, first)

pub overflow_add-result-then-octet-last : goal.overflow_add-result-then-octet-last
overflow_add-result-then-octet-last c = let first : let s = c.args.name.now in
    (1 ≤ get_or s 0 0) × (get_or s 0 0 ≤ 63) × (get_or s 0 0 + 1 < length s) = first_label_lem c.requires (omega arith) in
    omega (arith, first)

pub returns-then-octet-last : goal.returns-then-octet-last
returns-then-octet-last c = rw c.padding-pad.ensures
    (plan_lowered _ c.requires _ c.more-k.ensures (omega arith) _ _
    (rw c.lower-last.ensures at (previous_some _ _ _ c.previous-octet.ensures c.if-octet-last.true))
    (rw c.padding-pad.ensures at c.front_len-then-octet-last.ensures))

pub returns-then-size-eq1 : goal.returns-then-size-eq1
returns-then-size-eq1 c = rw c.unchanged-then-size-eq1.ensures
    (plan_parent _ c.requires _ c.more-k.ensures (omega arith)
    (rw c.lower-last.ensures at (previous_none _ _ _ c.previous-octet.ensures c.if-octet-last.false)) c.if-size-eq1.true)

pub overflow_sub-result-2 : goal.overflow_sub-result-2
overflow_sub-result-2 c = let first : let s = c.args.name.now in
    (1 ≤ get_or s 0 0) × (get_or s 0 0 ≤ 63) × (get_or s 0 0 + 1 < length s) = first_label_lem c.requires (omega arith) in
    omega (arith, first)

pub overflow_sub-size : goal.overflow_sub-size
overflow_sub-size c = let first : let s = c.args.name.now in
    (1 ≤ get_or s 0 0) × (get_or s 0 0 ≤ 63) × (get_or s 0 0 + 1 < length s) = first_label_lem c.requires (omega arith) in
    omega (arith, first)

pub bounds-name-size-2 : goal.bounds-name-size-2
bounds-name-size-2 c = let first : let s = c.args.name.now in
    (1 ≤ get_or s 0 0) × (get_or s 0 0 ≤ 63) × (get_or s 0 0 + 1 < length s) = first_label_lem c.requires (omega arith) in
    omega (arith, first)

pub overflow_add-result-2 : goal.overflow_add-result-2
overflow_add-result-2 c = let first : let s = c.args.name.now in
    (1 ≤ get_or s 0 0) × (get_or s 0 0 ≤ 63) × (get_or s 0 0 + 1 < length s) = first_label_lem c.requires (omega arith) in
    omega (arith, first)

pub returns : goal.returns
returns c = let first : let s = c.args.name.now in
    (1 ≤ get_or s 0 0) × (get_or s 0 0 ≤ 63) × (get_or s 0 0 + 1 < length s) = first_label_lem c.requires (omega arith) in
    rw c.lower.ensures
    (plan_shortened _ c.requires _ c.more-k.ensures (omega arith) _
    (rw c.lower-last.ensures at (previous_none _ _ _ c.previous-octet.ensures c.if-octet-last.false)) (omega (arith, first))
    c.front_len-2.ensures)
