-- A short plan as it is written: a block that begins with the octets that the label keeps, the rest of the name over what is too much of
-- it, and the octet between them and the length octet last (`short_put`). That is all the plan stands for (`lies_short`, `fills_short`).
use mathlib.Core.Path.{◌≡◌, refl, sym, ap, ◌∙◌}
use mathlib.Core.List.{List, [], ◌∷◌, append_assoc}
use Prim.Native.Nat.{ℕ, zero, suc, ◌+◌, ◌-◌, ◌≤◌}
use native.Mathlib.Omega.{arith}
use lib.ListN.{length, drop, set}
use Rattle.space.specs.Octets.{overlay}
use Rattle.space.specs.Fold.{folded}
use Rattle.space.specs.Private.Put.{folded_part, put_folded}
use Rattle.space.specs.Private.Written.{Written}
use Rattle.space.proofs.Written.{written_behind, written_before, written_part, written_none, written_octet, written_front}
use Rattle.space.proofs.Putting.{part_length, part_rest, folded_written}
use Rattle.space.proofs.FoldedBlocks.{part_split}
use Rattle.name.specs.Answer.{answer, Fills}
use Rattle.name.proofs.Answers.{fills_answer}
use Rattle.plan.specs.declared.Plan.{Plan}
use Rattle.plan.specs.Private.Planned.{changed, label_size, planned, Feasible}
use Rattle.plan.proofs.FrontLabels.{greatest_none}
use Rattle.writing.specs.Private.Short.{Short, ShortFits, short_octets}
use Rattle.writing.proofs.PlanWriting.{label_some, end_length}

-- ---- the octets

module _ {d s : List ℕ} {first kept rest : ℕ} (fits : ShortFits d s first kept rest) where
  -- the octets that the label keeps stand behind the length octet, and what follows them up to the end of a block is of no use
  pub short_none : {e : List ℕ} → e ≡ d → kept ≤ 0 → Written d 1 1 (folded_part s first kept) (kept + 1) 17 e
  short_none is none = let z : kept ≡ 0 = omega arith in rw (z, is) (written_none d (omega arith) (omega arith) (omega arith))

  pub short_block : {e : List ℕ} → e ≡ put_folded d 1 s first 16 → Written d 1 1 (folded_part s first kept) (kept + 1) 17 e
  short_block is =
      let all : kept + (16 - kept) ≡ 16 = omega arith in
      written_part (folded_written d 1 s first 16 fits.block is refl (omega arith)) [] (folded_part s first kept)
      (folded_part s (first + kept) (16 - kept)) (sym (part_split s first kept (16 - kept)) ∙ ap (folded_part s first) all) refl
      (omega (arith, part_length s first kept (omega arith)))

  pub short_put : (o : ℕ) {e f : List ℕ} → Written d 1 1 (folded_part s first kept) (kept + 1) 17 e
      → f ≡ put_folded e (kept + 2) s rest (length s - rest)
      → set (set f (kept + 1) o) 0 (kept + 1) ≡ overlay (short_octets s first kept o rest) d
  short_put o {e} {f} label is =
      let end : ℕ = kept + 2 + (length s - rest) in
      let last = folded_written e (kept + 2) s rest (length s - rest) (omega arith) is {end = end} refl (omega (arith, label.size)) in
      let others : Written e (kept + 2) (kept + 2) (folded (drop rest s)) end end f =
      rw (part_rest s rest (length s - rest) (omega arith)) at last in
      let octet = written_octet f (kept + 1) o {end = kept + 2} (omega arith) (omega (arith, others.size, label.size)) in
      let behind = written_behind label (written_before others octet (omega arith)) (omega arith) in
      let size = written_octet (set f (kept + 1) o) 0 (kept + 1) {end = 1} refl (omega (arith, behind.size)) in
      written_front (written_before behind size (omega arith)) (omega arith)

-- ---- the plan

module _ {s : List ℕ} {p : Plan} (f : Feasible s p) where
  unpadded : p.front + p.tail ≡ 1 → (p.front ≡ 0) × (p.tail ≡ 1)
  unpadded one = go p.front p.tail one f.front_labels
    where
      go : (front tail : ℕ) → front + tail ≡ 1 → (front ≡ 1 → ⊥) → (front ≡ 0) × (tail ≡ 1)
      go zero tail e some = omega arith
      go (suc m) tail e some = absurd (some (omega arith))

  -- what it stands for
  planned_short : (g : ℕ) → p.front + p.tail ≡ 1 → planned g s p ≡ short_octets s p.first p.kept p.octet p.rest
  unfolding planned changed
  planned_short g one =
      let is = unpadded one in
      rw (is.0, is.1, greatest_none g)
      (append_assoc ((p.kept + 1) ∷ folded_part s p.first p.kept) (p.octet ∷ []) (folded (drop p.rest s)))

  -- ---- the writer, with the numbers that it finds

  module _ (d : List ℕ) (size : ℕ) (is-size : size ≡ label_size p.kept p.tail)
      (is : Short p.front p.kept p.tail (p.front + size + (length s - p.rest)) (length s - p.first))
      (room : p.front + size + (length s - p.rest) ≤ length d) where
    short_end : p.front + size + (length s - p.rest) ≡ p.kept + 2 + (length s - p.rest)
    short_end =
        let one = unpadded is.single in
        omega (arith, label_some p.kept p.tail (omega arith))

    pub short_fits : ShortFits d s p.first p.kept p.rest
    short_fits =
        record {
          few = is.few;
          long = omega (arith, short_end);
          block = omega arith;
          rest_within = f.rest_within;
          room = omega (arith, short_end);
        }

    pub lies_short : (g : ℕ) {k : List ℕ} → k ≡ overlay (short_octets s p.first p.kept p.octet p.rest) d
        → k ≡ overlay (planned g s p) d
    lies_short g made = made ∙ ap (λ (l : List ℕ). overlay l d) (sym (planned_short g is.single))

    pub fills_short : (g : ℕ) {k : List ℕ} → k ≡ overlay (short_octets s p.first p.kept p.octet p.rest) d
        → Fills (answer (planned g s p)) d (answer (p.front + size + (length s - p.rest))) k
    fills_short g made =
        let end = end_length g f d size is-size in
        fills_answer refl end (rw (← end) room) (lies_short g made)
