-- What a walk along the labels of octets notes: how many there are, and where they begin.
use Rattle.std.specs.Prelude.{◌≡◌, List, ℕ, length, take, Ok, Err, Result as Outcome}
use Rattle.std.proofs.lemmas.List.Edits.{sets}
use Rattle.name.specs.declared.Fault.{Fault}
use Rattle.name.specs.Wire.{reading_of}
use Rattle.name.specs.Answer.{fault_place}
use Rattle.name.specs.Starts.{starts_of}

-- s is a name, and its n labels begin at the first n places
pub record Starts (s places : List ℕ) (n : ℕ) : Type 0 where
  pub whole : reading_of s ≡ Ok tt
  pub first : take n places ≡ starts_of s
  pub count : n ≡ length (starts_of s)

-- s is a name of n labels, and their places are stored one by one from the first index on; nothing else has changed
pub record Notes (s before : List ℕ) (n : ℕ) (after : List ℕ) : Type 0 where
  pub whole : reading_of s ≡ Ok tt
  pub count : n ≡ length (starts_of s)
  pub stored : after ≡ sets before 0 (starts_of s)

-- s is no name, and the places of the labels that begin before the fault's place are stored
pub record Stops (s before : List ℕ) (f : Fault) (after : List ℕ) : Type 0 where
  pub broken : reading_of s ≡ Err f
  pub stored : after ≡ sets before 0 (starts_of (take (fault_place f) s))

-- what was found, and every octet of the array
abbrev pub Marks : List ℕ → List ℕ → Outcome ℕ Fault → List ℕ → Type 0
Marks s before (Ok n) after = Notes s before n after
Marks s before (Err f) after = Stops s before f after
