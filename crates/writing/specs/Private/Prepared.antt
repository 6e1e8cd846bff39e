-- What the pieces of the writer promise each other.
use Rattle.std.specs.Prelude.{◌≡◌, List, ◌++◌, ℕ, zero, suc, ◌+◌, ◌-◌, ◌%◌, length, take, drop, set, replicate}
use Rattle.plan.specs.Private.Greatest.{greatest_octets}

-- the length octets of k labels of 63 octets, from the index m downwards, and that of the first label, where all labels take n octets
abbrev pub sizes : ℕ → ℕ → ℕ → List ℕ → List ℕ
sizes zero m n d = set d 0 ((n + 63) % 64)
sizes (suc k) m n d = sizes k (m - 64) n (set d (m - 64) 63)

-- the greatest labels stand in the first octets of a space, and the octet g as often as a label of `tail` octets is padded with it right
-- before the index `start`, from which on nothing has changed
pub record Prepared (g front tail start : ℕ) (before after : List ℕ) : Type 0 where
  pub size : length after ≡ length before
  pub labels : take front after ≡ greatest_octets g front
  pub padding : drop (start - (tail - 1)) after ≡ replicate (tail - 1) g ++ drop start before
