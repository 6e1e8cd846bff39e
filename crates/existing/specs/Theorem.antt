-- No existing name is ever denied: by a zone that is signed ahead, whatever list the check accepts; by one whose denials are made on the
-- spot, whatever names it has; by one that is hashed; and no batch that is split changes an answer.
use Rattle.std.specs.Prelude.{◌≡◌, List, ℕ}
use Rattle.name.specs.Answer.{answer}
use Rattle.owners.specs.Layout.{owners_of}
use Rattle.owners.specs.Answers.{check_owners_of, find_owner_of}
use Rattle.demands.specs.Hashes.{IsHash}
use Rattle.existing.specs.SignedAhead.{SignedAhead}
use Rattle.existing.specs.OnTheSpot.{OnTheSpot}
use Rattle.existing.specs.Hashed.{Hashed}
use Rattle.existing.specs.Split.{Split}

pub record NoExistingNameDenied : Type 0 where
  pub signed_ahead : (apex : List ℕ) (limit : ℕ) (names starts : List ℕ) (count : ℕ)
      → check_owners_of apex limit names starts ≡ answer count → SignedAhead apex (owners_of names starts) (find_owner_of names starts)
  pub on_the_spot : OnTheSpot
  pub hashed : (hash : List ℕ) (hashes : List (List ℕ)) → IsHash hash → Hashed hash hashes
  pub split : Split
