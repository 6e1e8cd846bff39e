-- Document 01's short set: the apex and the members of the zone with exactly one label more. The modified neighbours are its nearest. At a
-- depth of 2 or 3 (document 02, request Ten) the members may have so many labels more.
use Rattle.std.specs.Prelude.{List, ℕ, ◌≤◌}
use Rattle.alphabet.specs.declared.Alphabet.{Alphabet}
use Rattle.checks.specs.Under.{more}
use Rattle.neighbour.specs.Nearest.{InZone, InZoneOf}

-- a member of the zone with no label more than the apex is the apex
pub record InShortSet (apex : List ℕ) (limit : ℕ) (name : List ℕ) : Type 0 where
  pub zone : InZone apex limit name
  pub few : more apex name ≤ 1

-- the same of a zone that keeps to an alphabet, at a depth
pub record InShortSetOf (alphabet : Alphabet) (depth : ℕ) (apex : List ℕ) (limit : ℕ) (name : List ℕ) : Type 0 where
  pub zone : InZoneOf alphabet apex limit name
  pub few : more apex name ≤ depth
