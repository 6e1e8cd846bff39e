-- What each part of the program says by the number of octets with which the batch goes on. A question that is cut off has fewer octets than
-- the largest question, 1,214, so that there is always room for more.
use Rattle.std.specs.Prelude.{◌≡◌, ℕ, ◌-◌, ◌<◌, ◌≤◌, Option, Some, None}
use Rattle.stream.specs.declared.Counts.{Counts}

-- of n octets so many are answered, and where none is, they are no whole question
abbrev pub Answered : ℕ → Option (ℕ × Counts) → Type 0
Answered n (Some (k, counts)) = (k ≤ n) × (k ≡ 0 → n < 1214)
Answered n None = Unit {0}

-- of n octets those from an index on are no whole question
abbrev pub Unread : ℕ → Option (ℕ × Counts) → Type 0
Unread n (Some (at, counts)) = (at ≤ n) × (n - at < 1214)
Unread n None = Unit {0}

-- so many octets are held at the front, and are no whole question
abbrev pub Held : Option (ℕ × Counts) → Type 0
Held (Some (n, counts)) = n < 1214
Held None = Unit {0}
