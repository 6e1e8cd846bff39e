-- What measuring a name for its text finds.
use Rattle.std.specs.Prelude.{Ok, Err, ℕ, Result as Outcome}
use Rattle.name.specs.Wire.{Reading}
use Rattle.name.specs.declared.Fault.{Fault}

-- the text has so many characters, if the octets are read whole
abbrev pub measured_of : Reading → ℕ → Outcome ℕ Fault
measured_of (Ok _) n = Ok n
measured_of (Err f) n = Err f
