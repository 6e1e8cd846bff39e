-- Where the last of a name's labels above the apex begin, and what the checks find.
use Rattle.std.specs.Prelude.{◌≡◌, List, [], ◌++◌, ℕ, ◌-◌, ◌≤◌, ◌<◌, length}
use Rattle.name.specs.Answer.{Result, refusal}
use Rattle.zone.specs.Zone.{size}
use Rattle.zone.specs.Steps.{last_labels}
use Rattle.checks.specs.Private.Boundary.{upper, Passes}
use Rattle.checks.specs.Private.Climbs.{between, Climbs}
use Rattle.checks.specs.Checks.{checks}

-- the labels before the place cut are those that take the octets up to the place `at`, and those from there on
pub record Reaches (s : List ℕ) (cut at : ℕ) : Type 0 where
  pub climbs : Climbs s at cut (length s)
  pub passed : List (List ℕ)
  pub joins : upper s cut ≡ passed ++ between s at cut
  pub extent : size passed ≡ at

-- the last labels before the place cut, `depth` of them or all where there are fewer, begin at the place `at`
pub record LastAbove (s : List ℕ) (cut depth at : ℕ) : Type 0 where
  pub reaches : Reaches s cut at
  pub last : between s at cut ≡ last_labels depth (upper s cut)

-- the refusal of a name that the checks do not let pass: 1 to 5, and past them 6 without a test
abbrev pub refusal_of : {A : Type 0} → List ℕ → ℕ → List ℕ → Result A
refusal_of apex limit name = checks apex limit name (refusal 6 [])

-- what the checks 1 to 6 find: r is where the last labels above the apex begin, at most `depth` of them, or it is 255, and the name is
-- refused
pub record Places (apex : List ℕ) (limit depth : ℕ) (name : List ℕ) (r : ℕ) : Type 0 where
  pub most : r ≤ 255
  pub passes : r < 255 → Passes apex limit name (length name - length apex)
  pub last : r < 255 → LastAbove name (length name - length apex) depth r
  pub refuses : 255 ≤ r → (next : Result (List ℕ)) → checks apex limit name next ≡ refusal_of apex limit name
