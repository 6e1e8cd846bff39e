-- A number of 20 octets in three parts, and which of two such numbers is the lesser.
use Rattle.std.specs.Prelude.{ℕ, ◌+◌, ◌*◌, Bool, nat_lt}

-- the middle and the low part have 8 octets: 2 ^ 64 is 18446744073709551616
abbrev pub whole : ℕ → ℕ → ℕ → ℕ
whole high middle low = (high * 18446744073709551616 + middle) * 18446744073709551616 + low

unfoldable pub lesser : ℕ → ℕ → ℕ → ℕ → ℕ → ℕ → Bool
lesser high middle low high' middle' low' = nat_lt (whole high middle low) (whole high' middle' low')
