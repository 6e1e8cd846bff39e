-- What measuring a name for its key finds.
use Rattle.std.specs.Prelude.{Ok, Err, ℕ, Result as Outcome}
use Rattle.name.specs.Wire.{Reading}
use Rattle.name.specs.declared.Fault.{Fault}

-- so many length octets are 1, if the octets are read whole
abbrev pub measured_of : Reading → ℕ → Outcome ℕ Fault
measured_of (Ok _) n = Ok n
measured_of (Err f) n = Err f
