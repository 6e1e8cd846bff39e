-- What a plan stands for as it is written: the rest of the name first, then what stands before the label, then the label, if there is one
-- (`fills_unlabelled`, `fills_labelled`).
use mathlib.Core.Path.{◌≡◌, refl, sym, ap, ◌∙◌}
use mathlib.Core.List.{List, [], ◌∷◌, ◌++◌, append_assoc}
use Prim.Native.Nat.{ℕ, zero, suc, ◌+◌, ◌-◌, ◌≤◌, ◌<◌}
use native.Mathlib.Omega.{arith}
use lib.ListN.{length, take, drop, replicate, length-append, length-replicate, length-drop, length-map, take-append-drop}
use lib.Seq.{drop-append-le, length-take-le}
use Rattle.space.specs.Octets.{overlay}
use Rattle.space.specs.Fold.{lower_of, folded}
use Rattle.space.specs.Private.Put.{put, folded_part, end_count, put_end}
use Rattle.space.specs.Private.Written.{Written}
use Rattle.space.proofs.Written.{written_space}
use Rattle.space.proofs.Putting.{part_length, put_written}
use Rattle.space.proofs.Ends.{end_written}
use Rattle.name.specs.Answer.{answer, refusal, Fills}
use Rattle.name.proofs.Answers.{fills_no_room, fills_answer}
use Rattle.plan.specs.declared.Plan.{Plan}
use Rattle.plan.specs.Private.Greatest.{greatest_octets}
use Rattle.plan.specs.Private.Planned.{changed, label_size, planned, Feasible}
use Rattle.writing.specs.Private.Prepared.{Prepared}
use Rattle.plan.proofs.FrontLabels.{greatest_length}

pub label_none : (kept tail : ℕ) → tail ≡ 0 → label_size kept tail ≡ 0
unfolding label_size
label_none kept tail z = rw z

pub label_some : (kept tail : ℕ) → 1 ≤ tail → label_size kept tail ≡ kept + tail + 1
unfolding label_size
label_some kept zero h = absurd (omega arith)
label_some kept (suc pad) h = refl

pub label_least : (kept tail : ℕ) → tail ≤ label_size kept tail
unfolding label_size
label_least kept zero = omega arith
label_least kept (suc pad) = omega arith

pub label_most : (kept tail : ℕ) → label_size kept tail ≤ kept + tail + 1
unfolding label_size
label_most kept zero = omega arith
label_most kept (suc pad) = omega arith

regroup : (a b c d e f : List ℕ) → a ++ (b ++ c) ++ (d ++ (e ++ f)) ≡ a ++ (b ++ (c ++ d)) ++ e ++ f
regroup a b c d e f = simp append_assoc

-- what is written before an index, and all that follows
written_on : {d : List ℕ} {from at : ℕ} {k : List ℕ} {end : ℕ} {e : List ℕ} → Written d from at k end end e → drop at e ≡ k ++ drop end d
written_on {d} {from} {at} {k} {end} {e} w =
    let size : length (take end e) ≡ end = length-take-le end e (omega (arith, w.room, w.size)) in
    ap (drop at) (sym (take-append-drop end e))
    ∙ drop-append-le at (take end e) (drop end e) (omega (arith, w.ends))
    ∙ rw (w.octets, w.back)

changed_length : (g : ℕ) (s : List ℕ) (first kept o tail : ℕ) → first + kept ≤ length s
    → length (changed g s first kept o tail) ≡ label_size kept tail
unfolding changed label_size
changed_length g s first kept o zero h = refl
changed_length g s first kept o (suc pad) h =
    simp length-append (omega (arith, part_length s first kept h, length-replicate pad g))

module _ (g : ℕ) {s : List ℕ} {p : Plan} (f : Feasible s p) where
  pub planned_length : length (planned g s p) ≡ p.front + label_size p.kept p.tail + (length s - p.rest)
  unfolding planned
  planned_length =
      simp length-append
      (omega (
        arith,
        greatest_length g p.front,
        changed_length g s p.first p.kept p.octet p.tail f.kept_within,
        length-map (drop p.rest s) lower_of,
        length-drop p.rest s,
      ))

  module _ {d : List ℕ} {from start : ℕ} (end : ℕ) {e h : List ℕ} (is : end ≡ length (planned g s p))
      (w : Written d from start (folded (drop p.rest s)) end end e) (r : Prepared g p.front p.tail start e h) where
    after : List ℕ
    after = folded (drop p.rest s) ++ drop end d

    front : take p.front h ≡ greatest_octets g p.front
    front = r.labels

    behind : drop (start - (p.tail - 1)) h ≡ replicate (p.tail - 1) g ++ after
    unfolding after
    behind = r.padding ∙ ap (λ (l : List ℕ). replicate (p.tail - 1) g ++ l) (written_on w)

    plan_unlabelled : p.tail ≡ 0 → start ≡ p.front → h ≡ overlay (planned g s p) d
    unfolding planned changed after
    plan_unlabelled z same =
        let all : start - (0 - 1) ≡ p.front = omega arith in
        sym (take-append-drop p.front h)
        ∙ ap (λ (l : List ℕ). l ++ drop p.front h) front
        ∙ ap (λ (l : List ℕ). greatest_octets g p.front ++ l) (rw (z, all) at behind)
        ∙ rw (← is, z) (simp append_assoc)

    -- the changed label but for its padding
    label : List ℕ
    label = (p.kept + p.tail) ∷ folded_part s p.first p.kept ++ p.octet ∷ []

    label_length : length label ≡ p.kept + 2
    unfolding label
    label_length = simp length-append (omega (arith, part_length s p.first p.kept f.kept_within))

    placed : {k : List ℕ} → 1 ≤ p.tail → start ≡ p.front + (p.kept + p.tail + 1) → k ≡ put h p.front label
        → k ≡ greatest_octets g p.front ++ label ++ (replicate (p.tail - 1) g ++ after)
    placed some same made =
        let end-label : p.front + (p.kept + 2) ≡ start - (p.tail - 1) = omega arith in
        written_space
        (put_written h p.front label made {end = p.front + (p.kept + 2)} (omega (arith, label_length))
        (omega (arith, r.size, w.size, w.room, w.begins, w.ends, w.within)))
        ∙ rw (front, end-label, behind)

    joined : (pad : ℕ) → p.tail ≡ suc pad
        → greatest_octets g p.front ++ label ++ (replicate (p.tail - 1) g ++ after) ≡ overlay (planned g s p) d
    unfolding label planned changed after
    joined pad z =
        let padding : suc pad - 1 ≡ pad = omega arith in
        rw (← is, z, padding)
        (regroup (greatest_octets g p.front) ((p.kept + suc pad) ∷ folded_part s p.first p.kept) (p.octet ∷ []) (replicate pad g)
        (folded (drop p.rest s)) (drop end d))

    plan_labelled : {k : List ℕ} → 1 ≤ p.tail → start ≡ p.front + (p.kept + p.tail + 1)
        → k ≡ put h p.front ((p.kept + p.tail) ∷ folded_part s p.first p.kept ++ p.octet ∷ []) → k ≡ overlay (planned g s p) d
    unfolding label
    plan_labelled some same made = placed some same made ∙ joined (p.tail - 1) (omega arith)

  -- ---- the writer, with the numbers that it finds

  module _ (d : List ℕ) (size : ℕ) (is-size : size ≡ label_size p.kept p.tail) where
    abbrev start : ℕ
    start = p.front + size

    abbrev end : ℕ
    end = start + (length s - p.rest)

    pub end_length : end ≡ length (planned g s p)
    end_length = sym (planned_length ∙ rw (← is-size))

    pub fills_none : length d < end → Fills (answer (planned g s p)) d (refusal 9 []) d
    fills_none small = fills_no_room refl (rw (← end_length) small)

    module _ {e h : List ℕ} (room : end ≤ length d) (rest : e ≡ put_end d end s p.rest) (r : Prepared g p.front p.tail start e h)
      where
        written : Written d (end - end_count (length s - p.rest) (length s) end) start (folded (drop p.rest s)) end end e
        written =
            let at : end - (length s - p.rest) ≡ start = omega arith in
            rw at at (end_written d end s p.rest f.rest_within (omega arith) room rest)

        answered : {k : List ℕ} → k ≡ overlay (planned g s p) d → Fills (answer (planned g s p)) d (answer end) k
        answered made = fills_answer refl end_length (rw (← end_length) room) made

        pub lies_unlabelled : p.tail ≤ 0 → h ≡ overlay (planned g s p) d
        lies_unlabelled none =
            let z : p.tail ≡ 0 = omega arith in
            plan_unlabelled end end_length written r z (omega (arith, is-size, label_none p.kept p.tail z))

        pub lies_labelled : {k : List ℕ} → 1 ≤ p.tail
            → k ≡ put h p.front ((p.kept + p.tail) ∷ folded_part s p.first p.kept ++ p.octet ∷ [])
            → k ≡ overlay (planned g s p) d
        lies_labelled some made =
            plan_labelled end end_length written r some (omega (arith, is-size, label_some p.kept p.tail some)) made

        pub fills_unlabelled : p.tail ≤ 0 → Fills (answer (planned g s p)) d (answer end) h
        fills_unlabelled none = answered (lies_unlabelled none)

        pub fills_labelled : {k : List ℕ} → 1 ≤ p.tail
            → k ≡ put h p.front ((p.kept + p.tail) ∷ folded_part s p.first p.kept ++ p.octet ∷ [])
            → Fills (answer (planned g s p)) d (answer end) k
        fills_labelled some made = answered (lies_labelled some made)
