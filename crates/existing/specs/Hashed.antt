-- Hashed zones (RFC 5155), denied on the spot: between the hash before a hash and the hash after it lies none of the zone's hashes that is
-- another one.
use Rattle.std.specs.Prelude.{◌≡◌, true, false, ℕ}
use mathlib.Core.List.{List, Memᴰ}
use Rattle.hash.specs.Ring.{after, before}
use Rattle.hash.specs.Between.{lies_between}
use Rattle.demands.specs.Hashes.{IsHash}

-- of the hash of a query, and the hashes of all names of a zone
pub record Hashed (hash : List ℕ) (hashes : List (List ℕ)) : Type 0 where
  -- the query's own is between the two ends, and no other is
  pub own : lies_between (before hash) hash (after hash) ≡ true
  pub none_between : (Memᴰ hash hashes → ⊥) → (other : List ℕ) → Memᴰ other hashes → IsHash other
      → lies_between (before hash) other (after hash) ≡ false
