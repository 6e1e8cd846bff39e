-- The statements of how a denial is read hold: the one of gaps by the order of names, the others by ancestors.
use Rattle.covering.specs.Denials.{Denials}
use Rattle.covering.proofs.Between.{covers_between}
use Rattle.covering.proofs.Closers.{proper_closer, improper_closer}

pub denials : Denials
denials = record { covered = covers_between; next_closer = proper_closer; no_closer = improper_closer }
