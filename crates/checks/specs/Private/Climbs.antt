-- Labels that lead from one place of a name to another.
use Rattle.std.specs.Prelude.{◌≡◌, List, ◌++◌, map, ℕ, ◌+◌, ◌-◌, ◌≤◌, length, take, drop, get_or}
use Rattle.name.specs.Labels.{labels_of}
use Rattle.name.specs.Private.Standing.{Standing}
use Rattle.space.specs.Fold.{folded}

-- where the label that begins at the place `at` ends
abbrev pub past : List ℕ → ℕ → ℕ
past s at = at + 1 + get_or s at 0

-- the folded labels from the place `at` up to the place cut
abbrev pub between : List ℕ → ℕ → ℕ → List (List ℕ)
between s at cut = map folded (take (length (labels_of (drop at s)) - length (labels_of (drop cut s))) (labels_of (drop at s)))

-- labels lead from the place `at` to the place cut of the name s, which is within the limit
pub record Climbs (s : List ℕ) (at cut limit : ℕ) : Type 0 where
  pub stands : Standing s at 0
  pub ends : Standing s cut 0
  pub labels : List (List ℕ)
  pub joins : labels_of (drop at s) ≡ labels ++ labels_of (drop cut s)
  pub fits : length s ≤ limit
