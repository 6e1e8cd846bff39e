-- No existing name is ever denied: each part by its own law.
use Rattle.existing.specs.Theorem.{NoExistingNameDenied}
use Rattle.existing.proofs.SignedAhead.{signed_ahead}
use Rattle.existing.proofs.OnTheSpot.{on_the_spot}
use Rattle.existing.proofs.Hashed.{hashed}
use Rattle.existing.proofs.Split.{split}

pub no_existing_name_denied : NoExistingNameDenied
no_existing_name_denied = record { signed_ahead = signed_ahead; on_the_spot = on_the_spot; hashed = hashed; split = split }
