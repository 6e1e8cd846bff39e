-- The plan of the predecessor is its steps, by the first label: the last labels alone of a name that has more than the depth allows
-- (`plan_stripped`), the last name before the apex (`plan_last`), and else the first label's last octet lowered (`plan_lowered`) or dropped
-- (`plan_shortened`, `plan_parent`).
use mathlib.Core.Path.{◌≡◌, refl, sym, ap, ◌∙◌}
use mathlib.Core.List.{List, [], ◌∷◌, ◌++◌, append_assoc}
use mathlib.Core.Option.{Option, none, some}
use mathlib.Core.Bool.{Bool}
use mathlib.Core.Logic.{⊎_elim}
use Prim.Native.Nat.{ℕ, suc, ◌+◌, ◌-◌, ◌≤◌, ◌<◌, min}
use native.Mathlib.Nat.{add-zero, sub-zero}
use native.Mathlib.Omega.{arith}
use borrow.Author.Tests.{lt-ltb, le-ltb}
use lib.Dec.{T}
use lib.ListN.{length, take, drop, get_or, replicate, length-append, length-take, length-replicate}
use Rattle.space.specs.Fold.{lower_of, folded}
use Rattle.space.specs.Private.Put.{folded_part}
use Rattle.space.proofs.FoldedBlocks.{part_split}
use Rattle.name.specs.Labels.{wire}
use Rattle.name.proofs.LabelSteps.{inside}
use Rattle.zone.specs.Alphabet.{below}
use Rattle.zone.specs.Zone.{size}
use Rattle.zone.specs.Steps.{greatest, fill_labels, deepest, lowered, last_labels, predecessor_steps}
use Rattle.zone.proofs.Bridge.{wire_append}
use Rattle.zone.proofs.Octets.{Max, below_law}
use Rattle.alphabet.specs.Alphabets.{or_this}
use Rattle.checks.specs.Private.Boundary.{upper, lower, atop, Boundary}
use Rattle.checks.proofs.LastAbove.{last_more, last_octets}
use Rattle.spelling.proofs.LabelOctets.{wire_label_octets, part_one}
use Rattle.plan.specs.Private.Greatest.{greatest_octets, Taken}
use Rattle.plan.specs.Private.Asked.{Begins, stepped, Plans, whole, changed_plan, Allows}
use Rattle.plan.proofs.FrontLabels.{fill_labels_front, front_taken, taken_fits, taken_not_one}
use Rattle.plan.proofs.AllDepths.{predecessor_enough}
use Rattle.plan.proofs.NameStart.{folded_drop_length, upper_size, upper_sizes, lower_wire, lower_length, upper_none}
use Rattle.plan.proofs.NameStart.{NameStart, name_start}
use Rattle.plan.proofs.PlanShapes.{plans_whole, plans_rest, plans_changed}

module _ (allowed : ℕ → Bool) where
  -- the last member at or under the labels ls, of which the labels ms are the apex's
  deepest_octets : (limit d : ℕ) (ls ms : List (List ℕ)) (n : ℕ) → Taken (d - length ls) (limit - length (wire (ls ++ ms))) n
      → wire (deepest allowed (limit - length (wire ms)) d ls ++ ms) ≡ greatest_octets (greatest allowed) n ++ wire (ls ++ ms)
  deepest_octets limit d ls ms n t =
      let k : ℕ = d - length ls in
      let free : ℕ = limit - length (wire (ls ++ ms)) in
      let left : limit - length (wire ms) - size ls ≡ free = omega (arith, wire_append ls ms) in
      rw (left, fill_labels_front allowed k free ls, append_assoc (fill_labels allowed k free []) ls ms)
      (wire_label_octets (fill_labels allowed k free []) (ls ++ ms)
      ∙ ap (λ (l : List ℕ). l ++ wire (ls ++ ms)) (front_taken allowed k free n t))

  stripped_to_last : (n d : ℕ) (ls : List (List ℕ)) → d < length ls → predecessor_steps allowed n d ls ≡ last_labels d ls
  unfolding predecessor_steps
  stripped_to_last n d [] h = absurd (omega arith)
  stripped_to_last n d (l ∷ ls) h = rw (lt-ltb d (length (l ∷ ls)) h)

  lowered_none : (n d : ℕ) (l : List ℕ) (ls : List (List ℕ)) → 1 ≤ length l → lowered allowed n d none l ls ≡ deepest allowed n d (l ∷ ls)
  lowered_none n d [] ls h = absurd (omega arith)
  lowered_none n d (x ∷ l) ls h = refl

-- the first label has octets, and others follow it
pub first_label_lem : {depth : ℕ} {s : List ℕ} {cut at limit : ℕ} → Begins depth s cut at limit → 1 ≤ cut
    → (1 ≤ get_or s 0 0) × (get_or s 0 0 ≤ 63) × (get_or s 0 0 + 1 < length s)
first_label_lem q h = let n = name_start q.boundary h in rw n.octet (n.some, n.small, n.within)

module _ (allowed : ℕ → Bool) {depth : ℕ} {s : List ℕ} {cut at limit : ℕ} (q : Begins depth s cut at limit) where
  -- what the plan is to stand for, where so many labels are allowed
  abbrev goal : ℕ → List ℕ
  goal d = stepped (predecessor_steps allowed) s cut limit d

  pub plan_stripped : 0 < at → Plans (greatest allowed) s (goal depth) (whole 0 at)
  plan_stripped h =
      plans_rest at (omega (arith, inside q.last.reaches.climbs.stands))
      (last_octets q.last ∙ ap (atop s cut) (sym (stripped_to_last allowed _ depth (upper s cut) (last_more q.last h))))

  module _ (more : ℕ) (m : Allows depth (length (upper s cut)) more) where
    -- as many labels as the depth allows, or as fit
    to_depth : goal depth ≡ goal (more + length (upper s cut))
    to_depth =
        ⊎_elim (λ e. ap goal (sym e))
        (λ e.
        ap (atop s cut)
        (predecessor_enough allowed (limit - (length s - cut)) depth (more + length (upper s cut)) e.0 (omega (arith, e.1))
        (omega (arith, q.most, q.boundary.within)) (upper s cut) (upper_sizes q.boundary)
        (omega (arith, upper_size q.boundary, q.fits))))
        m

    pub plan_last : cut ≡ 0 → (n : ℕ) → Taken more (limit - length s) n → Plans (greatest allowed) s (goal depth) (whole n 0)
    unfolding predecessor_steps
    plan_last z n t =
        plans_whole n 0 (omega (arith, taken_fits t, q.most)) (taken_not_one t) (omega arith)
        (sym (to_depth ∙ rw z (octets (rw z at q.boundary))))
      where
        octets : Boundary s 0
            → stepped (predecessor_steps allowed) s 0 limit (more + length (upper s 0)) ≡ greatest_octets (greatest allowed) n ++ folded s
        octets b =
            let left : limit - length (wire (lower s 0)) ≡ limit - length s = rw (lower_length b) (omega arith) in
            rw (← lower_length b, upper_none s)
            (deepest_octets allowed limit (more + 0) [] (lower s 0) n (rw (add-zero more, sub-zero more, left) t) ∙ rw (lower_wire b))

    module _ (n : NameStart s cut) where
      -- the octets that the limit leaves above the apex
      abbrev free : ℕ
      free = limit - length (wire (lower s cut))

      abbrev labels : ℕ
      labels = more + suc (length n.between)

      kept : List ℕ
      kept = folded (take (length n.label - 1) (drop 1 s))

      last : ℕ
      last = lower_of (get_or s (length n.label) 0)

      start_octets : goal depth ≡ wire (lowered allowed free labels (below allowed last) kept n.between ++ lower s cut)
      unfolding predecessor_steps kept last
      start_octets =
          to_depth
          ∙ rw (
            ← lower_length q.boundary,
            n.is,
            le-ltb (more + suc (length n.between)) (suc (length n.between)) (omega arith),
            n.last,
            n.kept,
          )

      -- one label in front of those between
      label_octets_lem : (l : List ℕ) (front left : ℕ) → limit - length (length l ∷ l ++ folded (drop (length n.label + 1) s)) ≡ left
          → Taken more left front
          → wire (deepest allowed free labels (l ∷ n.between) ++ lower s cut)
          ≡ greatest_octets (greatest allowed) front ++ (length l ∷ l ++ folded (drop (length n.label + 1) s))
      label_octets_lem l front left e t =
          let less : labels - suc (length n.between) ≡ more = omega arith in
          let name : wire (l ∷ (n.between ++ lower s cut)) ≡ length l ∷ l ++ folded (drop (length n.label + 1) s) =
          ap (λ (r : List ℕ). length l ∷ l ++ r) n.rest in
          deepest_octets allowed limit labels (l ∷ n.between) (lower s cut) front (rw (less, n.rest, e) t)
          ∙ ap (λ (r : List ℕ). greatest_octets (greatest allowed) front ++ r) name

      kept_length : length kept ≡ length n.label - 1
      unfolding kept
      kept_length = ap length (sym n.kept) ∙ simp length-take (omega arith)

      -- the octets of the name's parts
      parts_length : length n.label + 1 + (size n.between + length (wire (lower s cut))) ≡ length s
      parts_length =
          let rest : length (wire (n.between ++ lower s cut)) ≡ length s - (length n.label + 1) =
          ap length n.rest ∙ folded_drop_length s (length n.label + 1) in
          omega (arith, wire_append n.between (lower s cut), rest, n.within)

      -- how many octets pad a label that is as long as the first one
      pad : ℕ
      pad = min (63 - length n.label) (limit - length s)

      padded_length : (l : List ℕ) → length l ≡ length n.label → min (63 - length l) (free - size (l ∷ n.between)) ≡ pad
      unfolding pad
      padded_length l e =
          let left : limit - length (wire (lower s cut)) - (1 + length n.label + size n.between) ≡ limit - length s =
          rw (← parts_length) (omega arith) in
          rw (e, left)

      relabel : (z : ℕ) (a : List ℕ) (o : ℕ) (b r : List ℕ) → z ∷ (a ++ o ∷ [] ++ b) ++ r ≡ z ∷ a ++ o ∷ (b ++ r)
      relabel z a o b r = ap (λ (l : List ℕ). z ∷ l) (simp append_assoc)

      lowered_octets : (o front : ℕ) → below allowed last ≡ some o → Taken more (limit - length s - pad) front
          → goal depth
          ≡ greatest_octets (greatest allowed) front
          ++ ((length n.label - 1 + (pad + 1)) ∷ kept
          ++ o ∷ (replicate pad (greatest allowed) ++ folded (drop (length n.label + 1) s)))
      lowered_octets o front found t =
          let padding : List ℕ = replicate pad (greatest allowed) in
          let l : List ℕ = kept ++ o ∷ [] ++ padding in
          let rest : List ℕ = folded (drop (length n.label + 1) s) in
          let count : length (kept ++ o ∷ []) ≡ length n.label = simp length-append (omega (arith, kept_length, n.some)) in
          let all : length l ≡ length n.label - 1 + (pad + 1) =
          simp (length-append, length-replicate) (omega (arith, kept_length, n.some)) in
          let left : limit - length (length l ∷ l ++ rest) ≡ limit - length s - pad =
          simp length-append
          (omega (
            arith,
            kept_length,
            n.some,
            n.within,
            length-replicate pad (greatest allowed),
            folded_drop_length s (length n.label + 1),
          )) in
          start_octets
          ∙ rw (found, padded_length (kept ++ o ∷ []) count)
          (label_octets_lem l front (limit - length s - pad) left t
          ∙ ap (λ (r : List ℕ). greatest_octets (greatest allowed) front ++ r)
          (rw all (relabel (length n.label - 1 + (pad + 1)) kept o padding rest)))

      shortened_octets : (front : ℕ) → below allowed last ≡ none → 2 ≤ length n.label → Taken more (limit - length s + 1) front
          → goal depth
          ≡ greatest_octets (greatest allowed) front
          ++ ((length n.label - 2 + 1) ∷ folded_part s 1 (length n.label - 2)
          ++ lower_of (get_or s (length n.label - 1) 0) ∷ folded (drop (length n.label + 1) s))
      unfolding kept
      shortened_octets front found two t =
          let m : ℕ = length n.label in
          let rest : List ℕ = folded (drop (m + 1) s) in
          let o : ℕ = lower_of (get_or s (m - 1) 0) in
          let count : m - 1 ≡ m - 2 + 1 = omega arith in
          let place : 1 + (m - 2) ≡ m - 1 = omega arith in
          let parts : kept ≡ folded_part s 1 (m - 2) ++ o ∷ [] =
          ap (folded_part s 1) count ∙ part_split s 1 (m - 2) 1
          ∙ ap (λ (l : List ℕ). folded_part s 1 (m - 2) ++ l) (rw place (part_one s (m - 1) (omega (arith, n.within)))) in
          let left : limit - length (length kept ∷ kept ++ rest) ≡ limit - length s + 1 =
          simp length-append (omega (arith, kept_length, n.some, n.within, q.fits, folded_drop_length s (m + 1))) in
          start_octets
          ∙ rw (found, lowered_none allowed free labels kept n.between (omega (arith, kept_length)))
          (label_octets_lem kept front (limit - length s + 1) left t
          ∙ ap (λ (r : List ℕ). greatest_octets (greatest allowed) front ++ r)
          (ap (λ (z : ℕ). z ∷ kept ++ rest) (kept_length ∙ count)
          ∙ ap (λ (l : List ℕ). (m - 2 + 1) ∷ l ++ rest) parts
          ∙ ap (λ (l : List ℕ). (m - 2 + 1) ∷ l) (append_assoc (folded_part s 1 (m - 2)) (o ∷ []) rest)))

      parent_octets : below allowed last ≡ none → length n.label ≡ 1 → goal depth ≡ folded (drop 2 s)
      unfolding kept
      parent_octets found one = start_octets ∙ rw (found, one) (n.rest ∙ rw one)

    -- by the first label's length octet, and its last octet
    module _ (some_label : 1 ≤ cut) where
      start : NameStart s cut
      start = name_start q.boundary some_label

      abbrev first_size : ℕ
      first_size = get_or s 0 0

      abbrev first_last : ℕ
      first_last = lower_of (get_or s first_size 0)

      pub plan_lowered : (o front : ℕ) → below allowed first_last ≡ some o
          → Taken more (limit - length s - min (63 - first_size) (limit - length s)) front
          → Plans (greatest allowed) s (goal depth)
          (changed_plan front 1 (first_size - 1) o (min (63 - first_size) (limit - length s)) (first_size + 1))
      unfolding kept last pad
      plan_lowered o front found t =
          plans_changed front 1 (first_size - 1) o (min (63 - first_size) (limit - length s)) (first_size + 1)
          (omega (arith, taken_fits t, q.most)) (taken_not_one t) (omega (arith, first_label_lem q some_label))
          (omega (arith, first_label_lem q some_label))
          (omega (arith, first_label_lem q some_label)) (sym (octets o front found t))
        where
          octets : (o front : ℕ) → below allowed first_last ≡ some o
              → Taken more (limit - length s - min (63 - first_size) (limit - length s)) front
              → goal depth
              ≡ greatest_octets (greatest allowed) front
              ++ ((first_size - 1 + (min (63 - first_size) (limit - length s) + 1)) ∷ folded_part s 1 (first_size - 1)
              ++ o ∷ (replicate (min (63 - first_size) (limit - length s)) (greatest allowed) ++ folded (drop (first_size + 1) s)))
          octets = rw start.octet (lowered_octets start)

      pub plan_shortened : (front : ℕ) → below allowed first_last ≡ none → 2 ≤ first_size → Taken more (limit - length s + 1) front
          → Plans (greatest allowed) s (goal depth)
          (changed_plan front 1 (first_size - 2) (lower_of (get_or s (first_size - 1) 0)) 0 (first_size + 1))
      unfolding last
      plan_shortened front found two t =
          plans_changed front 1 (first_size - 2) (lower_of (get_or s (first_size - 1) 0)) 0 (first_size + 1)
          (omega (arith, taken_fits t, q.most)) (taken_not_one t) (omega (arith, first_label_lem q some_label))
          (omega (arith, first_label_lem q some_label))
          (omega (arith, first_label_lem q some_label)) (sym (octets front found two t))
        where
          octets : (front : ℕ) → below allowed first_last ≡ none → 2 ≤ first_size → Taken more (limit - length s + 1) front
              → goal depth
              ≡ greatest_octets (greatest allowed) front
              ++ ((first_size - 2 + 1) ∷ folded_part s 1 (first_size - 2)
              ++ lower_of (get_or s (first_size - 1) 0) ∷ folded (drop (first_size + 1) s))
          octets = rw start.octet (shortened_octets start)

      pub plan_parent : below allowed first_last ≡ none → first_size ≡ 1 → Plans (greatest allowed) s (goal depth) (whole 0 2)
      unfolding last
      plan_parent found one = plans_rest 2 (omega (arith, first_label_lem q some_label)) (sym (octets found one))
        where
          octets : below allowed first_last ≡ none → first_size ≡ 1 → goal depth ≡ folded (drop 2 s)
          octets = rw start.octet (parent_octets start)

-- ---- the octet before another, as the code finds it

module _ (allowed : ℕ → Bool) (o r : ℕ) (is : r ≡ or_this (below allowed o) o) where
  pub previous_some : r < o → below allowed o ≡ some r
  previous_some h = go (below allowed o) is
    where
      go : (m : Option ℕ) → r ≡ or_this m o → m ≡ some r
      go none e = absurd (omega arith)
      go (some q) e = ap some (sym e)

  pub previous_none : o ≤ r → below allowed o ≡ none
  previous_none h = go (below allowed o) (below_law allowed o) is
    where
      go : (m : Option ℕ) → Max (λ p. (p < o) × T (allowed p)) m → r ≡ or_this m o → m ≡ none
      go none w e = refl
      go (some q) w e = absurd (omega (arith, w.0.0))
