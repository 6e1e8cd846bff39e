-- The plan of a successor is the climb of document 01: at the cut it ends (`plan_apex`), and before the cut a label is extended
-- (`plan_extend`), or raised (`plan_raise`), or its parent is tried (`climb_on`). A climb finds each as a number (`finds_apex`,
-- `finds_longer`, `finds_higher`).
use mathlib.Core.Path.{◌≡◌, refl, sym, ap, ◌∙◌}
use mathlib.Core.List.{List, [], ◌∷◌, ◌++◌, append_assoc}
use mathlib.Core.Option.{some}
use mathlib.Core.Bool.{Bool, true, false, ◌&&◌}
use mathlib.Core.Logic.{◌⊎◌, ⊎_elim}
use Prim.Native.Nat.{ℕ, zero, suc, ◌+◌, ◌-◌, ◌*◌, ◌≤◌, ◌<◌}
use native.Mathlib.Omega.{arith}
use borrow.Author.Tests.{lt-ltb, le-ltb, le-leb, lt-leb, ltb-true}
use lib.ListN.{length, take, drop, get_or, length-append}
use lib.Dec.{ltb}
use Rattle.facts.proofs.Booleans.{both_true}
use Rattle.name.specs.Labels.{wire}
use Rattle.space.specs.Fold.{lower_of, folded}
use Rattle.space.specs.Private.Put.{folded_part}
use Rattle.space.proofs.Putting.{part_length}
use Rattle.name.proofs.LabelSteps.{inside}
use Rattle.zone.specs.Alphabet.{from}
use Rattle.order.proofs.Members.{Octet}
use Rattle.zone.specs.Zone.{size}
use Rattle.zone.specs.Steps.{or_climb, least, greatest, raised, climb}
use Rattle.alphabet.specs.Alphabets.{or_this}
use Rattle.checks.specs.Private.Boundary.{lower}
use Rattle.checks.specs.Private.Climbs.{past, between}
use Rattle.checks.proofs.Lists.{folded_size}
use Rattle.checks.proofs.Climbing.{Tried, tried, climbs_between, climbs_octets, climbs_end}
use Rattle.climbing.specs.Private.Raised.{raised_before, LastOther, extended_plan, raised_plan, Finds, can_extend}
use Rattle.plan.specs.Private.Asked.{InAlphabet, Plans, whole, Tries, climbed}
use Rattle.plan.proofs.PlanShapes.{plans_rest, plans_one}
use Rattle.climbing.proofs.Raising.{last_raised}

and_off : (b : Bool) → (b && false) ≡ false
and_off true = refl
and_off false = refl

module _ {allowed : ℕ → Bool} {s : List ℕ} {at cut limit : ℕ} (q : Tries allowed s at cut limit) where
  pub plan_apex : cut ≤ at → Plans (greatest allowed) s (climbed allowed s at cut limit) (whole 0 at)
  unfolding climb
  plan_apex h = plans_rest at (omega (arith, inside q.climbs.stands)) (climbs_octets q.climbs ∙ rw (climbs_end q.climbs h))

  near : at < 256
  near = omega (arith, inside q.climbs.stands, q.climbs.fits, q.most)

  pub finds_apex : cut ≤ at → Finds allowed s (climbed allowed s at cut limit) at
  finds_apex h =
      record {
        place = at;
        index = 0;
        is = omega arith;
        near = near;
        few = omega arith;
        apex = λ e. plan_apex h;
        within = λ g. absurd (omega arith);
        longer = λ e. absurd (omega arith);
        higher = λ g. absurd (omega arith);
      }

  module _ (some_label : at < cut) where
    t : Tried s at cut limit
    t = tried q.climbs some_label

    -- the label that is tried, folded, and its parent's
    label : List ℕ
    label = folded_part s (at + 1) (get_or s at 0)

    parents : List (List ℕ)
    parents = between s (past s at) cut

    -- the octets that the limit leaves above the apex
    room : ℕ
    room = limit - (length s - cut)

    first : between s at cut ≡ label ∷ parents
    unfolding t label parents
    first =
        t.first
        ∙ ap (λ (l : List ℕ). folded l ∷ between s (past s at) cut)
        (sym (ap (λ (n : ℕ). take n (drop (at + 1) s)) t.octet ∙ t.octets))

    label_spelled : (l m : List ℕ) (o : ℕ) → l ++ o ∷ m ≡ label → Octet allowed o
    label_spelled l m o e = q.spelled [] parents l m o (ap (λ (x : List ℕ). x ∷ parents) e ∙ sym first)

    parents_spelled : InAlphabet allowed parents
    parents_spelled us ms l m o e = q.spelled (label ∷ us) ms l m o (ap (λ (x : List (List ℕ)). label ∷ x) e ∙ sym first)

    pub label_within : (get_or s at 0 ≤ 63) × (past s at < length s)
    unfolding t
    label_within = (omega (arith, t.octet, t.small), t.within)

    label_size_lem : length label ≡ get_or s at 0
    unfolding label
    label_size_lem = part_length s (at + 1) (get_or s at 0) (omega (arith, label_within))

    extent : past s at + size parents ≡ cut
    unfolding t parents
    extent = omega (arith, t.extent, ap size (climbs_between t.parent), folded_size t.parent.labels)

    pub parent_tries : Tries allowed s (past s at) cut limit
    unfolding t parents
    parent_tries = record { climbs = t.parent; most = q.most; spelled = parents_spelled }

    -- a climb leaves one label fewer
    pub fewer_labels : length (between s at cut) ≡ suc (length (between s (past s at) cut))
    unfolding parents
    fewer_labels = ap length first

    -- the first k octets of the label and one more, before the labels of its parent
    changed_wire : (k x : ℕ) → k ≤ get_or s at 0
        → (k + 1) ∷ folded_part s (at + 1) k ++ x ∷ folded (drop (past s at) s)
        ≡ wire (((folded_part s (at + 1) k ++ x ∷ []) ∷ parents) ++ lower s cut)
    unfolding t parents
    changed_wire k x h =
        let count : length (folded_part s (at + 1) k ++ x ∷ []) ≡ k + 1 =
        simp length-append (omega (arith, part_length s (at + 1) k (omega (arith, label_within)))) in
        rw (count, climbs_octets t.parent)
        (ap (λ (r : List ℕ). (k + 1) ∷ r)
        (sym (append_assoc (folded_part s (at + 1) k) (x ∷ []) (wire (between s (past s at) cut ++ lower s cut)))))

    pub plan_extend : get_or s at 0 < 63 → length s - at < limit
        → Plans (greatest allowed) s (climbed allowed s at cut limit) (extended_plan allowed s at)
    unfolding climb label room
    plan_extend small fits =
        plans_one (at + 1) (get_or s at 0) (least allowed) (past s at) small (omega (arith, label_within)) (omega (arith, label_within))
        (changed_wire (get_or s at 0) (least allowed) (omega arith)
        ∙ rw (
          first,
          lt-ltb (length label) 63 (omega (arith, label_size_lem)),
          le-leb (1 + length label + size parents + 1) room (omega (arith, label_size_lem, extent, inside q.climbs.ends)),
        ))

    pub finds_longer : get_or s at 0 < 63 → length s - at < limit → Finds allowed s (climbed allowed s at cut limit) (at + 256 * 64)
    finds_longer small fits =
        record {
          place = at;
          index = 64;
          is = refl;
          near = near;
          few = omega arith;
          apex = λ e. absurd (omega arith);
          within = λ g. label_within.1;
          longer = λ e. plan_extend small fits;
          higher = λ g h. absurd (omega arith);
        }

    -- no octet is added: the label or the name is full
    not_extended : (63 ≤ get_or s at 0) ⊎ (limit ≤ length s - at)
        → climb allowed room (between s at cut) ≡ or_climb (raised allowed label) parents (climb allowed room parents)
    unfolding climb room
    not_extended f =
        rw first
        (⊎_elim
        (λ big. rw (le-ltb (length label) 63 (omega (arith, label_size_lem))))
        (λ tight.
        rw (
          lt-leb (1 + length label + size parents + 1) room (omega (arith, label_size_lem, extent, label_within, inside q.climbs.ends)),
          and_off (ltb (length label) 63),
        ))
        f)

    module _ (f : (63 ≤ get_or s at 0) ⊎ (limit ≤ length s - at)) (k : ℕ) (last : LastOther (greatest allowed) s (at + 1) (get_or s at 0) k)
      where
        found : raised allowed label ≡ raised_before allowed s (at + 1) k
        unfolding label
        found = last_raised allowed s (at + 1) (get_or s at 0) k (omega (arith, label_within)) label_spelled last

        pub plan_raise : 0 < k → Plans (greatest allowed) s (climbed allowed s at cut limit) (raised_plan allowed s at (k - 1))
        unfolding room
        plan_raise h =
            let o : ℕ = lower_of (get_or s (at + 1 + (k - 1)) 0) in
            let next : ℕ = or_this (from allowed (suc o)) o in
            let raised : climb allowed room (between s at cut) ≡ (folded_part s (at + 1) (k - 1) ++ next ∷ []) ∷ parents =
            not_extended f ∙ rw (found, raised_to k h) in
            plans_one (at + 1) (k - 1) next (past s at) (omega (arith, last.trailing.within, label_within))
            (omega (arith, last.trailing.within, label_within)) (omega (arith, label_within))
            (changed_wire (k - 1) next (omega (arith, last.trailing.within))
            ∙ sym (ap (λ (ls : List (List ℕ)). wire (ls ++ lower s cut)) raised))
          where
            raised_to : (j : ℕ) → 0 < j
                → raised_before allowed s (at + 1) j
                ≡ (let x = lower_of (get_or s (at + 1 + (j - 1)) 0) in
                some (folded_part s (at + 1) (j - 1) ++ or_this (from allowed (suc x)) x ∷ []))
            raised_to zero g = absurd (omega arith)
            raised_to (suc j) g = let e : suc j - 1 ≡ j = omega arith in rw e

        pub finds_higher : 0 < k → Finds allowed s (climbed allowed s at cut limit) (at + 256 * k)
        finds_higher h =
            record {
              place = at;
              index = k;
              is = refl;
              near = near;
              few = omega (arith, last.trailing.within, label_within);
              apex = λ e. absurd (omega arith);
              within = λ g. label_within.1;
              longer = λ e. absurd (omega (arith, last.trailing.within, label_within));
              higher = λ g l. (omega (arith, last.trailing.within), plan_raise h);
            }

        pub climb_on : k ≤ 0 → climbed allowed s at cut limit ≡ climbed allowed s (past s at) cut limit
        unfolding room parents
        climb_on h =
            let z : k ≡ 0 = omega arith in
            let climbs : climb allowed room (between s at cut) ≡ climb allowed room parents = not_extended f ∙ rw (found, z) in
            ap (λ (ls : List (List ℕ)). wire (ls ++ lower s cut)) climbs

-- ---- a label that has room

room_test : (s : List ℕ) (at cut limit : ℕ) {b : Bool} → b ≡ can_extend s at cut limit → b ≡ true
    → (at < cut) × (get_or s at 0 < 63) × (length s - at < limit)
room_test s at cut limit e on =
    let h = both_true (ltb at cut) (ltb (get_or s at 0) 63 && ltb (length s - at) limit) (sym e ∙ on) in
    let g = both_true (ltb (get_or s at 0) 63) (ltb (length s - at) limit) h.1 in
    (ltb-true at cut h.0, ltb-true (get_or s at 0) 63 g.0, ltb-true (length s - at) limit g.1)

module _ {allowed : ℕ → Bool} {s : List ℕ} {at cut limit : ℕ} (q : Tries allowed s at cut limit) {b : Bool}
    (e : b ≡ can_extend s at cut limit) (on : b ≡ true) where
  pub extends_within : past s at < length s
  extends_within = (label_within q (room_test s at cut limit e on).0).1

  pub plan_extends : Plans (greatest allowed) s (climbed allowed s at cut limit) (extended_plan allowed s at)
  plan_extends = let h = room_test s at cut limit e on in plan_extend q h.0 h.1 h.2
