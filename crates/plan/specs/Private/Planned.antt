-- The octets that a plan for a name stands for, and what a plan has to be so that it can be written.
use Rattle.std.specs.Prelude.{◌≡◌, List, [], ◌∷◌, ◌++◌, ℕ, zero, suc, ◌+◌, ◌-◌, ◌≤◌, length, take, drop, replicate}
use Rattle.space.specs.Fold.{folded}
use Rattle.plan.specs.declared.Plan.{Plan}
use Rattle.plan.specs.Private.Greatest.{greatest_octets}

-- a label of the `kept` octets of s from the index `first` on, folded, the octet o, and the octet g as often as is left of `tail` octets;
-- no label where tail is 0
unfoldable pub changed : ℕ → List ℕ → ℕ → ℕ → ℕ → ℕ → List ℕ
changed g s first kept o zero = []
changed g s first kept o (suc pad) = (kept + suc pad) ∷ folded (take kept (drop first s)) ++ o ∷ replicate pad g

-- how many octets that label takes
unfoldable pub label_size : ℕ → ℕ → ℕ
label_size kept zero = 0
label_size kept (suc pad) = kept + suc pad + 1

-- greatest labels, the changed label, and the name s from the index `rest` on, folded
unfoldable pub planned : ℕ → List ℕ → Plan → List ℕ
planned g s p =
    greatest_octets g p.front ++ changed g s p.first p.kept p.octet p.tail ++ folded (drop p.rest s)

-- how many octets that are
abbrev pub planned_size : List ℕ → Plan → ℕ
planned_size s p = p.front + label_size p.kept p.tail + (length s - p.rest)

-- the parts of the name are there, and the numbers of octets are those of labels
pub record Feasible (s : List ℕ) (p : Plan) : Type 0 where
  pub front_few : p.front ≤ 256
  pub front_labels : p.front ≡ 1 → ⊥
  pub label_few : p.kept + p.tail ≤ 63
  pub kept_none : p.tail ≡ 0 → p.kept ≡ 0
  pub kept_within : p.first + p.kept ≤ length s
  pub rest_within : p.rest ≤ length s
