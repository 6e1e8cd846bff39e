-- What one walk over a name finds for two places, and what the checks find with it.
use Rattle.std.specs.Prelude.{◌≡◌, List, ℕ, ◌-◌, ◌≤◌, ◌<◌, length}
use Rattle.name.specs.Answer.{Result}
use Rattle.checks.specs.Checks.{checks}
use Rattle.checks.specs.Private.Boundary.{Boundary, Passes}
use Rattle.checks.specs.Private.LastAbove.{refusal_of}
use Rattle.checks.specs.Private.Walks.{Walks}

-- s is a name, a label begins at the place cut, and r is what a walk to the place mark finds of the last label before it; or r is 256, and
-- s is no name or no label begins at the cut
pub record WalksBoth (s : List ℕ) (cut mark r : ℕ) : Type 0 where
  pub most : r ≤ 256
  pub begins : r < 256 → Boundary s cut
  pub marks : r < 256 → Walks s mark 1 r
  pub none : 256 ≤ r → Boundary s cut → ⊥

-- the checks 1 to 6 pass, and r is what a walk to the place mark finds; or it is 256, and the name is refused
pub record PlacesBoth (apex : List ℕ) (limit mark : ℕ) (name : List ℕ) (r : ℕ) : Type 0 where
  pub most : r ≤ 256
  pub passes : r < 256 → Passes apex limit name (length name - length apex)
  pub marks : r < 256 → Walks name mark 1 r
  pub refuses : 256 ≤ r → (next : Result (List ℕ)) → checks apex limit name next ≡ refusal_of apex limit name
