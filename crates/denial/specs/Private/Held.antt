-- What may be denied.
use Rattle.std.specs.Prelude.{◌≡◌, List, ℕ, ◌-◌, ◌≤◌, ◌<◌, length, drop, Ok}
use Rattle.space.specs.Fold.{folded}
use Rattle.name.specs.Wire.{reading_of}
use Rattle.encloser.specs.Wildcard.{wildcard_name}
use Rattle.neighbour.specs.Nearest.{Question}

-- a name that can be asked for, and is not the apex
pub record Missing (apex : List ℕ) (limit : ℕ) (name : List ℕ) : Type 0 where
  pub asked : Question apex limit name
  pub longer : length apex < length name

-- such is the next closer name, which ends in the encloser's octets, letter case aside, and the wildcard where it is within the limit
pub record Deniable (apex : List ℕ) (limit : ℕ) (encloser closer : List ℕ) : Type 0 where
  pub whole : reading_of encloser ≡ Ok tt
  pub closer_missing : Missing apex limit closer
  pub shorter : length encloser < length closer
  pub ends : folded (drop (length closer - length encloser) closer) ≡ folded encloser
  pub wildcard_missing : length (wildcard_name encloser) ≤ limit → Missing apex limit (wildcard_name encloser)
