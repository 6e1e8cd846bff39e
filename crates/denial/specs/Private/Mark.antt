-- Where the octets of an encloser would begin in a query.
use Rattle.std.specs.Prelude.{◌≡◌, List, ℕ, ◌+◌, ◌≤◌, ◌<◌, length}

-- as many octets from the query's end as the encloser has; or at its end, where no label begins, if the encloser is not shorter
pub record MarkOf (encloser query : List ℕ) (r : ℕ) : Type 0 where
  pub shorter : length encloser < length query → r + length encloser ≡ length query
  pub other : length query ≤ length encloser → r ≡ length query
