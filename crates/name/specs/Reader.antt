-- What a reader of keys or of texts finds: what stands there, or the place where nothing that it accepts goes on. That place is the length
-- of the longest beginning that something accepted also begins with (document 01, the place of 10; document 02, that of 14).
use Rattle.std.specs.Prelude.{List, ◌++◌, ℕ, ◌≤◌, ◌<◌, length, take}

pub data Read : Type 0 where
  found : List ℕ → Read
  stops : ℕ → Read

module _ (Accepted : List ℕ → Type 0) where
  -- something accepted begins with these octets
  pub record Begins (octets : List ℕ) : Type 0 where
    pub rest : List ℕ
    pub accepted : Accepted (octets ++ rest)

  -- the longest beginning of these octets that something accepted also begins with has p octets
  pub record Longest (octets : List ℕ) (p : ℕ) : Type 0 where
    pub within : p ≤ length octets
    pub begins : (n : ℕ) → n ≤ p → Begins (take n octets)
    pub no_longer : (n : ℕ) → p < n → n ≤ length octets → Begins (take n octets) → ⊥
