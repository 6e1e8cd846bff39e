-- What the plan of a neighbour is made of, and what it is to be.
use Rattle.std.specs.Prelude.{◌≡◌, List, ◌∷◌, ◌++◌, Bool, ◌&&◌, ◌⊎◌, ℕ, ◌+◌, ◌-◌, ◌≤◌, ◌<◌, T, ltb, leb, length}
use Rattle.name.specs.Labels.{wire}
use Rattle.zone.specs.Zone.{size}
use Rattle.zone.specs.Steps.{climb}
use Rattle.checks.specs.Private.Boundary.{Boundary, upper, lower, atop}
use Rattle.checks.specs.Private.Climbs.{between, Climbs}
use Rattle.checks.specs.Private.LastAbove.{LastAbove}
use Rattle.plan.specs.declared.Plan.{Plan}
use Rattle.plan.specs.Private.Planned.{planned, Feasible}

-- every octet of the labels is one of the alphabet
abbrev pub InAlphabet : (ℕ → Bool) → List (List ℕ) → Type 0
InAlphabet allowed ls =
    (us ms : List (List ℕ)) (l m : List ℕ) (o : ℕ) → us ++ (l ++ o ∷ m) ∷ ms ≡ ls → (o < 256) × T (allowed o)

-- s is a name within the limit; the last of its labels before the place `cut`, at most `depth`, begin at the place `at`
pub record Begins (depth : ℕ) (s : List ℕ) (cut at limit : ℕ) : Type 0 where
  pub boundary : Boundary s cut
  pub fits : length s ≤ limit
  pub most : limit ≤ 255
  pub last : LastAbove s cut depth at

-- and the labels before the place `cut` are in the alphabet
pub record Asks (allowed : ℕ → Bool) (depth : ℕ) (s : List ℕ) (cut at limit : ℕ) : Type 0 where
  pub begins : Begins depth s cut at limit
  pub spelled : InAlphabet allowed (upper s cut)

-- the name that steps make of the labels before the place `cut`, atop the others
abbrev pub stepped : (ℕ → ℕ → List (List ℕ) → List (List ℕ)) → List ℕ → ℕ → ℕ → ℕ → List ℕ
stepped steps s cut limit depth = atop s cut (steps (limit - (length s - cut)) depth (upper s cut))

-- the plan can be written, and stands for these octets
pub record Plans (g : ℕ) (s octets : List ℕ) (p : Plan) : Type 0 where
  pub feasible : Feasible s p
  pub is : planned g s p ≡ octets

-- no label is changed
abbrev pub whole : ℕ → ℕ → Plan
whole front rest = record { front = front; first = 0; kept = 0; octet = 0; tail = 0; rest = rest }

-- a label that keeps so many octets, and has this octet and the padding behind them
abbrev pub changed_plan : ℕ → ℕ → ℕ → ℕ → ℕ → ℕ → Plan
changed_plan front first kept octet pad rest =
    record { front = front; first = first; kept = kept; octet = octet; tail = pad + 1; rest = rest }

-- so many labels may stand in front of `count` labels, where `depth` are allowed; where all are allowed, any number that is enough
abbrev pub Allows : ℕ → ℕ → ℕ → Type 0
Allows depth count more = (more + count ≡ depth) ⊎ ((127 ≤ depth) × (127 ≤ more))

-- labels of the alphabet lead from the place `at` to the place cut of the name s, which is within the limit
pub record Tries (allowed : ℕ → Bool) (s : List ℕ) (at cut limit : ℕ) : Type 0 where
  pub climbs : Climbs s at cut limit
  pub most : limit ≤ 255
  pub spelled : InAlphabet allowed (between s at cut)

-- what a climb from the place `at` makes of them
abbrev pub climbed : (ℕ → Bool) → List ℕ → ℕ → ℕ → ℕ → List ℕ
climbed allowed s at cut limit = wire (climb allowed (limit - (length s - cut)) (between s at cut) ++ lower s cut)

-- depth and limit allow one label more in front of the labels from the place `at` on
abbrev pub child_fits : ℕ → List ℕ → ℕ → ℕ → ℕ → Bool
child_fits depth s cut at limit = ltb (length (between s at cut)) depth && leb (size (between s at cut) + 2) (limit - (length s - cut))
