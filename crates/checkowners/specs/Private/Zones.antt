-- A zone that the checks 1 to 3 let pass.
use Rattle.std.specs.Prelude.{◌≡◌, List, ℕ, ◌+◌, ◌≤◌, length, Ok}
use Rattle.name.specs.Wire.{reading_of}

pub record Zone (apex : List ℕ) (limit : ℕ) : Type 0 where
  pub some : 1 ≤ limit
  pub most : limit ≤ 255
  pub whole : reading_of apex ≡ Ok tt
  pub fits : length apex + 2 ≤ limit
