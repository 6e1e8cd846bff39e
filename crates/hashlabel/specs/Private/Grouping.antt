-- Digits in one base become digits in another, group by group.
use Rattle.std.specs.Prelude.{◌≡◌, List, ℕ, ◌+◌, ◌*◌, ◌^◌, ◌≤◌, ◌<◌, length}
use Rattle.hash.specs.Private.Below.{Below}

-- count numbers of a list from the index `at` on are digits of a small number
pub record Part (base count : ℕ) (s : List ℕ) (at : ℕ) : Type 0 where
  pub below : Below base s
  pub positive : 0 < base
  pub small : base ^ count ≤ 2 ^ 40
  pub within : at + count ≤ length s

-- Four groups of n digits in a base are read from a list, and four groups of m digits in the other are written to the front of a space. A
-- group says as much in either base, its number is small, and a digit of the other base is an octet.
pub record Regroups (base n other m : ℕ) (s space : List ℕ) : Type 0 where
  pub read : length s ≡ 4 * n
  pub room : 4 * m ≤ length space
  pub below : Below base s
  pub same : base ^ n ≡ other ^ m
  pub small : base ^ n ≤ 2 ^ 40
  pub positive : 0 < base
  pub other_positive : 0 < other
  pub other_high : other ≤ 256
