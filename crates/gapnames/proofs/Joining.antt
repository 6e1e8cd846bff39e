-- Gaps that touch are one, and others two, as the names are compared: the same octets, folded, and as many, so that a name is compared as
-- it is written (`written_same`), and is not written where it has another number of octets (`unlike`).
use mathlib.Core.Path.{◌≡◌, sym, ap, ◌∙◌}
use mathlib.Core.List.{List, [], ◌∷◌}
use mathlib.Core.Bool.{Bool, true, false}
use Prim.Native.Nat.{ℕ, ◌+◌, ◌-◌, ◌≤◌}
use native.Mathlib.Omega.{arith}
use lib.ListN.{length, take, drop}
use lib.Seq.{take-append_seam}
use Rattle.facts.proofs.Booleans.{never_true}
use Rattle.space.specs.Fold.{folded}
use Rattle.space.specs.Private.Put.{put}
use Rattle.space.proofs.Putting.{put_overlay}
use Rattle.space.proofs.SameBlocks.{same_octets_equal}
use Rattle.name.specs.Answer.{Result, answer}
use Rattle.name.proofs.Folding.{folded_length}
use Rattle.gaps.specs.Denial.{is_same, joined_gaps}
use Rattle.gaps.specs.Denies.{Denies}
use Rattle.plan.specs.declared.Plan.{Plan}
use Rattle.plan.specs.Private.Planned.{planned, planned_size}
use Rattle.writing.proofs.PlanWriting.{planned_length, label_some}
use Rattle.gapnames.specs.Private.Named.{wild_plan, Writable}
use Rattle.gapnames.proofs.Written.{size_length}

-- ---- gaps that touch, and others

module _ (first A B second C D : List ℕ) {before after : List ℕ} {words : Result ℕ} where
  pub joined_behind : {b : Bool} → b ≡ is_same B second → b ≡ true → Denies (answer (A ∷ D ∷ [])) before words after
      → Denies (answer (joined_gaps first A B second C D)) before words after
  joined_behind e t d = rw (sym e ∙ t) d

  pub joined_before : {b c : Bool} → b ≡ is_same B second → b ≡ false → c ≡ is_same D first → c ≡ true
      → Denies (answer (C ∷ B ∷ [])) before words after → Denies (answer (joined_gaps first A B second C D)) before words after
  joined_before e t f u d = rw (sym e ∙ t, sym f ∙ u) d

  pub joined_apart : {b c : Bool} → b ≡ is_same B second → b ≡ false → c ≡ is_same D first → c ≡ false
      → Denies (answer (A ∷ B ∷ C ∷ D ∷ [])) before words after → Denies (answer (joined_gaps first A B second C D)) before words after
  joined_apart e t f u d = rw (sym e ∙ t, sym f ∙ u) d

-- ---- a name that is written to be compared

pub unlike : (x y : List ℕ) → (length x ≡ length y → ⊥) → false ≡ is_same x y
unlike x y g =
    sym (never_true (is_same x y) (λ t.
    g (sym (folded_length x) ∙ ap length (same_octets_equal (folded x) (folded y) t) ∙ folded_length y)))

-- a plan does not stand for the wildcard where it has another number of octets
pub unlike_wild : (g : ℕ) {s : List ℕ} {rest : ℕ} {p : Plan} → Writable s (wild_plan rest) → Writable s p → {n : ℕ} → n ≡ planned_size s p
    → (n ≡ length s - rest + 2 → ⊥) → false ≡ is_same (planned g s p) (planned g s (wild_plan rest))
unlike_wild g {s} {rest} {p} w v e f =
    unlike (planned g s p) (planned g s (wild_plan rest)) (λ l.
    f (size_length g v e ∙ l ∙ planned_length g w.feasible ∙ omega (arith, label_some 0 1 (omega arith))))

module _ (x d : List ℕ) {e : List ℕ} {n : ℕ} (made : e ≡ put d 0 x) (few : length x ≤ 255) (room : 255 ≤ length d) (count : n ≡ length x)
  where
    written_front : take n e ≡ x
    written_front = rw (count, made ∙ put_overlay d x (omega arith)) (take-append_seam x (drop (length x) d))

    pub written_same : (y : List ℕ) → n ≡ length y → {b : Bool} → b ≡ is_same (take (length y) e) y → b ≡ is_same x y
    written_same y same is = is ∙ ap (λ (s : List ℕ). is_same s y) (rw same at written_front)

    pub same_written : (y : List ℕ) {b : Bool} → b ≡ is_same y (take n e) → b ≡ is_same y x
    same_written y is = is ∙ ap (is_same y) written_front
