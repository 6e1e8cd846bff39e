-- The plan of the successor is its steps: the least label in front where one more is allowed (`plan_child`), or else a climb from the last
-- labels that the depth allows (`climbed_steps`). What is past all names under it is a climb from its own labels (`climbed_past`).
use mathlib.Core.Path.{◌≡◌, refl, sym, ap, ◌∙◌}
use mathlib.Core.List.{List, [], ◌∷◌, ◌++◌, append_assoc}
use mathlib.Core.Bool.{Bool, true, false, cond, ◌&&◌, false≢true}
use mathlib.Core.Logic.{⊎_elim}
use Prim.Native.Nat.{ℕ, zero, suc, ◌+◌, ◌-◌, ◌≤◌, ◌<◌}
use native.Mathlib.Omega.{arith}
use borrow.Author.Tests.{lt-ltb, le-ltb, le-leb, lt-leb}
use lib.ListN.{length, length-drop}
use lib.Dec.{ltb}
use Rattle.name.specs.Labels.{wire}
use Rattle.name.proofs.LabelSteps.{inside}
use Rattle.zone.specs.Zone.{size}
use Rattle.zone.specs.Steps.{least, greatest, climb, deeper, successor_steps, predecessor_steps}
use Rattle.zone.proofs.Depth.{size_count}
use Rattle.checks.specs.Private.Boundary.{upper, lower, atop}
use Rattle.checks.specs.Private.Climbs.{between, Climbs}
use Rattle.checks.proofs.Lists.{folded_size}
use Rattle.checks.proofs.Climbing.{climbs_between, climbs_size, climbs_octets, boundary_climbs}
use Rattle.checks.proofs.LastAbove.{last_climbs, last_more}
use Rattle.plan.specs.declared.Plan.{Plan}
use Rattle.plan.specs.declared.Way.{Way}
use Rattle.plan.specs.declared.Way.TheVariants.{Before, After, Past}
use Rattle.plan.specs.Private.Nearby.{is_before, is_past, steps_of, after_steps}
use Rattle.plan.specs.Private.Asked.{Begins, Asks, Allows, child_fits, stepped, Plans, changed_plan, Tries, climbed}
use Rattle.plan.proofs.NameStart.{upper_size, upper_sizes}
use Rattle.plan.proofs.PlanShapes.{plans_one}

and_off : (b : Bool) → b && false ≡ false
and_off true = refl
and_off false = refl

and_on : (b : Bool) → b && true ≡ b
and_on true = refl
and_on false = refl

module _ {depth : ℕ} {s : List ℕ} {cut at limit : ℕ} (q : Begins depth s cut at limit) where
  pub begins_climbs : Climbs s at cut limit
  begins_climbs = last_climbs q.last limit q.fits

  extent : at + size (between s at cut) ≡ cut
  extent =
      omega (arith, climbs_size begins_climbs, ap size (climbs_between begins_climbs), folded_size begins_climbs.labels)

  -- a name with others before them has as many labels as the depth allows
  pub child_none : 0 < at → false ≡ child_fits depth s cut at limit
  child_none h =
      let count : length (between s at cut) ≡ depth =
      ap length q.last.last ∙ length-drop (length (upper s cut) - depth) (upper s cut) ∙ omega (arith, last_more q.last h) in
      rw (le-ltb (length (between s at cut)) depth (omega arith))

  tight_front : limit < length s + 2 → at ≡ 0 → false ≡ child_fits depth s cut at limit
  tight_front tight z =
      rw (
        lt-leb (size (between s at cut) + 2) (limit - (length s - cut)) (omega (arith, extent, q.boundary.within)),
        and_off (ltb (length (between s at cut)) depth),
      )

  -- the name has no two octets to spare
  pub child_tight : limit < length s + 2 → false ≡ child_fits depth s cut at limit
  child_tight tight = go at refl
    where
      go : (n : ℕ) → at ≡ n → false ≡ child_fits depth s cut at limit
      go zero e = tight_front tight e
      go (suc n) e = child_none (omega arith)

  pub child_more : length s + 2 ≤ limit → at ≡ 0 → (more : ℕ) → Allows depth (length (upper s cut)) more
      → ltb 0 more ≡ child_fits depth s cut at limit
  child_more fits z more m =
      rw (
        le-leb (size (between s at cut) + 2) (limit - (length s - cut)) (omega (arith, extent, q.boundary.within)),
        and_on (ltb (length (between s at cut)) depth),
      )
      (rw z (⊎_elim (λ e. exact more e) (λ e. many e.0 e.1) m))
    where
      exact : (k : ℕ) → k + length (upper s cut) ≡ depth → ltb 0 k ≡ ltb (length (upper s cut)) depth
      exact zero e = rw (le-ltb (length (upper s cut)) depth (omega arith))
      exact (suc k) e = rw (lt-ltb 0 (suc k) (omega arith), lt-ltb (length (upper s cut)) depth (omega arith))

      many : 127 ≤ depth → 127 ≤ more → ltb 0 more ≡ ltb (length (upper s cut)) depth
      many d k =
          rw (
            lt-ltb 0 more (omega arith),
            lt-ltb (length (upper s cut)) depth
                (omega (
                  arith,
                  size_count (upper s cut) (upper_sizes q.boundary),
                  upper_size q.boundary,
                  q.most,
                  q.boundary.within,
                )),
          )

  module _ (allowed : ℕ → Bool) where
    abbrev goal : List ℕ
    goal = stepped (successor_steps allowed) s cut limit depth

    split : (b : Bool) → b ≡ child_fits depth s cut at limit
        → goal
        ≡ wire (cond b ((least allowed ∷ []) ∷ between s at cut) (climb allowed (limit - (length s - cut)) (between s at cut))
        ++ lower s cut)
    unfolding successor_steps deeper
    split b e = rw (← q.last.last, ← e)

    pub plan_child : (b : Bool) → b ≡ true → b ≡ child_fits depth s cut at limit
        → Plans (greatest allowed) s goal (changed_plan 0 0 0 (least allowed) 0 at)
    plan_child b on e =
        plans_one 0 0 (least allowed) at (omega arith) (omega arith) (omega (arith, inside begins_climbs.stands))
        (ap (λ (r : List ℕ). 1 ∷ least allowed ∷ r) (climbs_octets begins_climbs) ∙ sym (split true (sym on ∙ e)))

    pub climbed_steps : (b : Bool) → b ≡ false → b ≡ child_fits depth s cut at limit → {p : Plan}
        → Plans (greatest allowed) s (climbed allowed s at cut limit) p → Plans (greatest allowed) s goal p
    climbed_steps b off e p = record { feasible = p.feasible; is = p.is ∙ sym (split false (sym off ∙ e)) }

pub asks_tries : {allowed : ℕ → Bool} {depth : ℕ} {s : List ℕ} {cut at limit : ℕ} → Asks allowed depth s cut at limit
    → Tries allowed s at cut limit
asks_tries q =
    let r = q.begins.last.reaches in
    record {
      climbs = begins_climbs q.begins;
      most = q.begins.most;
      spelled = λ us ms l m o e.
          q.spelled (r.passed ++ us) ms l m o
          (append_assoc r.passed us ((l ++ o ∷ m) ∷ ms) ∙ ap (λ (x : List (List ℕ)). r.passed ++ x) e ∙ sym r.joins);
    }

-- ---- past all names under it

-- at the depth that labels themselves have no label goes in front
own_depth : (allowed : ℕ → Bool) (n : ℕ) (ls : List (List ℕ)) → successor_steps allowed n (length ls) ls ≡ climb allowed n ls
unfolding successor_steps deeper
own_depth allowed n ls =
    let all : length ls - length ls ≡ 0 = omega arith in
    rw (all, le-ltb (length ls) (length ls) (omega arith))

pub front_tries : {allowed : ℕ → Bool} {depth : ℕ} {s : List ℕ} {cut at limit : ℕ} → Asks allowed depth s cut at limit
    → Tries allowed s 0 cut limit
front_tries {limit = limit} q =
    record { climbs = boundary_climbs q.begins.boundary limit q.begins.fits; most = q.begins.most; spelled = q.spelled }

pub climbed_past : (allowed : ℕ → Bool) (s : List ℕ) (cut limit : ℕ) {p : Plan}
    → Plans (greatest allowed) s (climbed allowed s 0 cut limit) p
    → Plans (greatest allowed) s
    (atop s cut (successor_steps allowed (limit - (length s - cut)) (length (upper s cut)) (upper s cut))) p
climbed_past allowed s cut limit p =
    record {
      feasible = p.feasible;
      is = p.is ∙ ap (λ (ls : List (List ℕ)). wire (ls ++ lower s cut)) (sym (own_depth allowed (limit - (length s - cut)) (upper s cut)));
    }

-- ---- both ways that go up the order

module _ {allowed : ℕ → Bool} {depth : ℕ} {s : List ℕ} {cut at limit : ℕ} (q : Asks allowed depth s cut at limit) where
  pub after_tries : (past : Bool) → Tries allowed s (cond past 0 at) cut limit
  after_tries true = front_tries q
  after_tries false = asks_tries q

  pub after_child : (past b : Bool) → b ≡ true → b ≡ cond past false (child_fits depth s cut at limit)
      → Plans (greatest allowed) s (stepped (after_steps past allowed) s cut limit depth) (changed_plan 0 0 0 (least allowed) 0 at)
  after_child true b on e = absurd (false≢true (sym e ∙ on))
  after_child false b on e = plan_child q.begins allowed b on e

  pub after_climbed : (past b : Bool) → b ≡ false → b ≡ cond past false (child_fits depth s cut at limit) → {p : Plan}
      → Plans (greatest allowed) s (climbed allowed s (cond past 0 at) cut limit) p
      → Plans (greatest allowed) s (stepped (after_steps past allowed) s cut limit depth) p
  after_climbed true b off e p = climbed_past allowed s cut limit p
  after_climbed false b off e p = climbed_steps q.begins allowed b off e p

pub after_way : (way : Way) → is_before way ≡ false → steps_of way ≡ after_steps (is_past way)
after_way Before e = absurd (false≢true (sym e))
after_way After e = refl
after_way Past e = refl

pub before_way : (way : Way) → is_before way ≡ true → steps_of way ≡ predecessor_steps
before_way Before e = refl
before_way After e = absurd (false≢true e)
before_way Past e = absurd (false≢true e)
