-- The octets that a plan stands for, by its shape: no label changed (`planned_whole`), or one (`planned_changed`).
use mathlib.Core.Path.{◌≡◌, refl, ap, ◌∙◌}
use mathlib.Core.List.{List, ◌∷◌, ◌++◌, append-nil, append_assoc}
use Prim.Native.Nat.{ℕ, suc, ◌+◌, ◌≤◌, ◌<◌}
use native.Mathlib.Numerals.{add-one}
use native.Mathlib.Omega.{arith}
use lib.ListN.{length, drop, replicate}
use Rattle.space.specs.Fold.{folded}
use Rattle.space.specs.Private.Put.{folded_part}
use Rattle.plan.specs.Private.Greatest.{greatest_octets}
use Rattle.plan.specs.Private.Planned.{changed, planned}
use Rattle.plan.specs.Private.Asked.{Plans, whole, changed_plan}
use Rattle.plan.proofs.FrontLabels.{greatest_none}

planned_whole : (g : ℕ) (s : List ℕ) (front rest : ℕ) → planned g s (whole front rest) ≡ greatest_octets g front ++ folded (drop rest s)
unfolding planned changed
planned_whole g s front rest = ap (λ (l : List ℕ). l ++ folded (drop rest s)) (append-nil (greatest_octets g front))

pub plans_whole : {g : ℕ} {s octets : List ℕ} (front rest : ℕ) → front ≤ 256 → (front ≡ 1 → ⊥) → rest ≤ length s
    → greatest_octets g front ++ folded (drop rest s) ≡ octets → Plans g s octets (whole front rest)
plans_whole {g} {s} front rest few some has is =
    record {
      feasible = record {
        front_few = few;
        front_labels = some;
        label_few = omega arith;
        kept_none = λ z. refl;
        kept_within = omega arith;
        rest_within = has;
      };
      is = planned_whole g s front rest ∙ is;
    }

-- nothing in front
pub plans_rest : {g : ℕ} {s octets : List ℕ} (rest : ℕ) → rest ≤ length s → folded (drop rest s) ≡ octets → Plans g s octets (whole 0 rest)
plans_rest {g} {s} rest has is = plans_whole 0 rest (omega arith) (λ e. omega arith) has (rw (greatest_none g) is)

regroup : (a b c d : List ℕ) → a ++ (b ++ c) ++ d ≡ a ++ (b ++ (c ++ d))
regroup a b c d = simp append_assoc

module _ (front first kept octet pad rest : ℕ) where
  planned_changed : (g : ℕ) (s : List ℕ)
      → planned g s (changed_plan front first kept octet pad rest)
      ≡ greatest_octets g front ++ ((kept + (pad + 1)) ∷ folded_part s first kept ++ octet ∷ (replicate pad g ++ folded (drop rest s)))
  unfolding planned changed
  planned_changed g s =
      rw (add-one pad)
      (regroup (greatest_octets g front) ((kept + suc pad) ∷ folded_part s first kept) (octet ∷ replicate pad g) (folded (drop rest s)))

  pub plans_changed : {g : ℕ} {s octets : List ℕ} → front ≤ 256 → (front ≡ 1 → ⊥) → kept + pad < 63
      → first + kept ≤ length s → rest ≤ length s
      → greatest_octets g front ++ ((kept + (pad + 1)) ∷ folded_part s first kept ++ octet ∷ (replicate pad g ++ folded (drop rest s)))
      ≡ octets
      → Plans g s octets (changed_plan front first kept octet pad rest)
  plans_changed {g} {s} few some size within has is =
      record {
        feasible = record {
          front_few = few;
          front_labels = some;
          label_few = omega arith;
          kept_none = λ z. absurd (omega arith);
          kept_within = within;
          rest_within = has;
        };
        is = planned_changed g s ∙ is;
      }

-- nothing in front, and no padding
pub plans_one : {g : ℕ} {s octets : List ℕ} (first kept octet rest : ℕ) → kept < 63 → first + kept ≤ length s → rest ≤ length s
    → (kept + 1) ∷ folded_part s first kept ++ octet ∷ folded (drop rest s) ≡ octets
    → Plans g s octets (changed_plan 0 first kept octet 0 rest)
plans_one {g} first kept octet rest size within has is =
    plans_changed 0 first kept octet 0 rest (omega arith) (λ e. omega arith) (omega arith) within has (rw (greatest_none g) is)
