-- A place between two labels of a name, and the labels before and from there: what the checks find and the writers of neighbours take.
use Rattle.std.specs.Prelude.{◌≡◌, List, ◌++◌, map, ℕ, ◌+◌, ◌-◌, ◌≤◌, ◌<◌, true, length, take, drop, Ok}
use Rattle.name.specs.Wire.{reading_of}
use Rattle.name.specs.Labels.{wire, labels_of}
use Rattle.space.specs.Fold.{folded}
use Rattle.checks.specs.Under.{is_under}

-- how many labels of s stand before the place `at`
abbrev pub before : List ℕ → ℕ → ℕ
before s at = length (labels_of s) - length (labels_of (drop at s))

-- the folded labels before the place, and those from it on
abbrev pub upper : List ℕ → ℕ → List (List ℕ)
upper s at = map folded (take (before s at) (labels_of s))

abbrev pub lower : List ℕ → ℕ → List (List ℕ)
lower s at = map folded (labels_of (drop at s))

-- s is a name, and the place `at` is where one of its labels begins, or its end
pub record Boundary (s : List ℕ) (at : ℕ) : Type 0 where
  pub whole : reading_of s ≡ Ok tt
  pub within : at < length s
  pub tail : wire (drop (before s at) (labels_of s)) ≡ drop at s

-- the name whose labels before the place are these, and whose labels from it on are those of s, folded
abbrev pub atop : List ℕ → ℕ → List (List ℕ) → List ℕ
atop s at ls = wire (ls ++ lower s at)

-- the checks 1 to 6 pass, and the apex's labels begin at the place `cut` of the name
pub record Passes (apex : List ℕ) (limit : ℕ) (name : List ℕ) (cut : ℕ) : Type 0 where
  pub some : 1 ≤ limit
  pub most : limit ≤ 255
  pub apex_whole : reading_of apex ≡ Ok tt
  pub apex_fits : length apex + 2 ≤ limit
  pub name_fits : length name ≤ limit
  pub boundary : Boundary name cut
  pub length_apex : cut + length apex ≡ length name
  pub is_under_lem : is_under apex name ≡ true
