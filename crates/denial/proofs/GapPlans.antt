-- The ends of the gap of a name that can be asked for have plans (`asks`), which stand for them (`owner_is`, `next_is`), since the
-- operations that answer with them go by the same plans.
use mathlib.Core.Path.{◌≡◌, sym, ap, ◌∙◌}
use mathlib.Core.List.{List, [], ◌∷◌}
use Prim.Native.Nat.{ℕ, zero, suc, ◌+◌, ◌-◌, ◌≤◌, ◌<◌}
use native.Mathlib.Omega.{arith}
use lib.ListN.{length, get_or}
use Rattle.space.specs.Octets.{Octets}
use Rattle.name.specs.Labels.{labels_of}
use Rattle.name.specs.Answer.{Result, answer}
use Rattle.name.proofs.Answers.{answer_injective}
use Rattle.name.proofs.Labels.{at_most_127_labels}
use Rattle.zone.specs.Steps.{greatest, predecessor_steps}
use Rattle.alphabet.specs.declared.Alphabet.TheVariants.{Full}
use Rattle.alphabet.specs.Alphabets.{allowed}
use Rattle.checks.specs.declared.Depth.TheVariants.{All}
use Rattle.checks.specs.Under.{more}
use Rattle.checks.specs.Private.Boundary.{Passes}
use Rattle.checks.specs.Private.LastAbove.{LastAbove, Places}
use Rattle.checks.proofs.LabelPlaces.{place_of}
use Rattle.checks.proofs.LastAbove.{place_last}
use Rattle.checks.proofs.Tails.{under_place, under_cut, octets_of_under}
use Rattle.plan.specs.declared.Plan.{Plan}
use Rattle.plan.specs.declared.Way.TheVariants.{Before, Past}
use Rattle.plan.specs.Private.Planned.{planned, Feasible}
use Rattle.plan.specs.Private.Asked.{Asks, stepped, Plans}
use Rattle.plan.specs.Private.Nearby.{past_steps}
use Rattle.spelling.proofs.SpelledLabels.{full_labels_spelled}
use Rattle.plan.proofs.Answering.{nearest_asks, nearest_answer}
use Rattle.neighbour.specs.Nearest.{Question}
use Rattle.gaps.specs.Denial.{owner_of, next_of, one_gap}
use Rattle.gaps.specs.Denies.{Denies}
use Rattle.gaps.proofs.OneGap.{owner_answer, next_answer, owner_zone, next_zone}
use Rattle.writing.proofs.PlanWriting.{planned_length}
use Rattle.gapnames.specs.Private.Named.{Writable}

octets_at_lem : (s : List ℕ) → Octets s → (i : ℕ) → get_or s i 0 < 256
octets_at_lem [] o i = omega arith
octets_at_lem (x ∷ s) o zero = o.0
octets_at_lem (x ∷ s) o (suc i) = octets_at_lem s o.1 i

-- a plan that stands for the octets of a name can be written
pub writable : (g : ℕ) {s octets : List ℕ} {p : Plan} → Feasible s p → planned g s p ≡ octets → length octets ≤ 255 → Writable s p
writable g f is few = record { feasible = f; few = omega (arith, planned_length g f, ap length is) }

module _ (apex : List ℕ) (limit : ℕ) (name : List ℕ) (q : Question apex limit name) where
  abbrev cut : ℕ
  cut = length name - length apex

  placed : place_of (labels_of name) (more apex name) + length apex ≡ length name
  placed = under_place apex name q.apex_formed.whole q.name_formed.whole q.under

  ends : cut + length apex ≡ length name
  ends = omega (arith, placed)

  passes : Passes apex limit name cut
  passes =
      record {
        some = q.some;
        most = q.most;
        apex_whole = q.apex_formed.whole;
        apex_fits = q.apex_fits;
        name_fits = q.name_fits;
        boundary = (octets_of_under apex name q.apex_formed.whole q.name_formed.whole q.under cut ends).0;
        length_apex = ends;
        is_under_lem = q.under;
      }

  -- all labels above the apex are among the last 127
  last : LastAbove name cut 127 0
  last =
      let w = q.name_formed.whole in
      let c : place_of (labels_of name) (more apex name) ≡ cut = under_cut apex name q.apex_formed.whole w q.under cut ends in
      let z : more apex name - 127 ≡ 0 = omega (arith, at_most_127_labels name w) in
      rw (c, z) at (place_last name w (more apex name) (omega arith) 127)

  found : Places apex limit 127 name 0
  found =
      record {
        most = omega arith;
        passes = λ h. passes;
        last = λ h. last;
        refuses = λ h. absurd (omega arith);
      }

  pub asks : Asks (allowed Full) 127 name cut 0 limit
  asks = nearest_asks All found (omega arith) Full (octets_at_lem name q.name_formed.octets) (full_labels_spelled name cut)

  pub owner_few : length (owner_of apex limit name) ≤ 255
  owner_few = omega (arith, (owner_zone apex limit name q).fits, q.most)

  pub next_few : length (next_of apex limit name) ≤ 255
  next_few = omega (arith, (next_zone apex limit name q).fits, q.most)

  -- ---- the plan of the owner, and that of the next name

  abbrev pub OwnerPlan : Plan → Type 0
  OwnerPlan p = Plans (greatest (allowed Full)) name (stepped (predecessor_steps (allowed Full)) name cut limit 127) p

  abbrev pub NextPlan : Plan → Type 0
  NextPlan p = Plans (greatest (allowed Full)) name (stepped (past_steps (allowed Full)) name cut limit 127) p

  module _ {p : Plan} where
    pub owner_is : OwnerPlan p → planned (greatest (allowed Full)) name p ≡ owner_of apex limit name
    owner_is w =
        answer_injective
        (sym (nearest_answer All found (omega arith) Full Before (omega (arith, q.apex_fits)) (full_labels_spelled name cut) w)
        ∙ owner_answer apex limit name q)

    pub next_is : NextPlan p → planned (greatest (allowed Full)) name p ≡ next_of apex limit name
    next_is w =
        answer_injective
        (sym (nearest_answer All found (omega arith) Full Past (omega (arith, q.apex_fits)) (full_labels_spelled name cut) w)
        ∙ next_answer apex limit name q)

    pub owner_writable : OwnerPlan p → Writable name p
    owner_writable w = writable (greatest (allowed Full)) w.feasible (owner_is w) owner_few

    pub next_writable : NextPlan p → Writable name p
    next_writable w = writable (greatest (allowed Full)) w.feasible (next_is w) next_few

  pub one_denied : {a b : Plan} → OwnerPlan a → NextPlan b → {g : ℕ} → g ≡ greatest (allowed Full)
      → {before after : List ℕ} {words : Result ℕ}
      → Denies (answer (planned g name a ∷ planned g name b ∷ [])) before words after
      → Denies (answer (one_gap apex limit name)) before words after
  one_denied h i e d = rw (e, owner_is h, next_is i) at d
