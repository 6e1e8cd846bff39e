-- Well formed names (document 01, "What a name is").
use Rattle.std.specs.Prelude.{◌≡◌, List, ℕ, Ok}
use Rattle.space.specs.Octets.{Octets}
use Rattle.name.specs.Wire.{reading_of}

-- octets that are exactly one whole name
pub record WellFormed (name : List ℕ) : Type 0 where
  pub octets : Octets name
  pub whole : reading_of name ≡ Ok tt
