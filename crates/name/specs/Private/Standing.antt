-- A place in a name where labels begin: what a walk along its labels keeps.
use Rattle.std.specs.Prelude.{◌≡◌, ℕ, ◌≤◌, List, length, drop}
use Rattle.name.specs.Labels.{wire, Sizes, labels_of}

-- the octets from the place `at` on are the wire octets of labels, at least `above` of them
pub record Standing (s : List ℕ) (at above : ℕ) : Type 0 where
  pub sizes : Sizes (labels_of (drop at s))
  pub back : wire (labels_of (drop at s)) ≡ drop at s
  pub count : above ≤ length (labels_of (drop at s))
