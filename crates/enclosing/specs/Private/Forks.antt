-- The places where two names come together: the labels from there on are the same, letter case aside, and those before them differ.
use Rattle.std.specs.Prelude.{◌≡◌, List, ℕ, ◌+◌, ◌≤◌, length, drop, Some, None, Ok, Option}
use Rattle.name.specs.Wire.{reading_of}
use Rattle.space.specs.Fold.{folded}
use Rattle.checks.specs.Private.Boundary.{Boundary}
use Rattle.checks.specs.Private.Climbs.{past}
use Rattle.enclosing.specs.declared.forks.Reached.{Reached}
use Rattle.enclosing.specs.declared.forks.Fork.{Fork}

-- a label of s begins at the place `at`, or the name ends there; the label before it, if there is one, begins at the place `label`
pub record Stands (s : List ℕ) (label at : ℕ) : Type 0 where
  pub here : Boundary s at
  pub behind : (at ≡ 0 → ⊥) → Boundary s label × (past s label ≡ at)

-- the first such place from `at` on with at most so many octets behind it
pub record Advances (s : List ℕ) (at most : ℕ) (r : Reached) : Type 0 where
  pub stands : Stands s r.label r.at
  pub close : length s ≤ most + r.at
  pub first : (x : ℕ) → Boundary s x → at ≤ x → length s ≤ most + x → r.at ≤ x

-- such a place that is not behind the first one with at most so many octets behind it
pub record Nears (s : List ℕ) (most : ℕ) (r : Reached) : Type 0 where
  pub stands : Stands s r.label r.at
  pub first : (x : ℕ) → Boundary s x → length s ≤ most + x → r.at ≤ x

-- what a walk over octets finds
abbrev pub Scans : List ℕ → ℕ → Option Reached → Type 0
Scans s most (Some r) = Nears s most r
Scans s most None = reading_of s ≡ Ok tt → ⊥

-- the labels of s from p on and of t from q on are the same
pub record Meets (s t : List ℕ) (p q : ℕ) : Type 0 where
  pub first : Boundary s p
  pub second : Boundary t q
  pub same : drop p (folded s) ≡ drop q (folded t)

-- they come together at p and at q, where no labels before them are the same
pub record Forks (s t : List ℕ) (r : Fork) : Type 0 where
  pub first : Stands s r.a r.p
  pub second : Stands t r.b r.q
  pub meets : Meets s t r.p r.q
  pub least : (x y : ℕ) → Meets s t x y → r.p ≤ x
