-- Octets written into a space: what the functions that write a part of an answer promise each other.
use Rattle.std.specs.Prelude.{◌≡◌, List, ℕ, ◌+◌, ◌≤◌, length, take, drop}
use Rattle.std.proofs.Math.Seq.{slice}

-- The octets k stand in the space from the index `at` to the index `end`. Nothing before the index `from` or from the index `to` on has
-- changed: what stands between `from` and `at`, and between `end` and `to`, is of no use, and a later piece goes there. Where exactly k is
-- written, `from` is `at` and `to` is `end`.
pub record Written (before : List ℕ) (from at : ℕ) (k : List ℕ) (end to : ℕ) (after : List ℕ) : Type 0 where
  pub begins : from ≤ at
  pub ends : at + length k ≡ end
  pub within : end ≤ to
  pub room : to ≤ length before
  pub size : length after ≡ length before
  pub front : take from after ≡ take from before
  pub octets : slice at end after ≡ k
  pub back : drop to after ≡ drop to before

-- before the index `end` of a space there is room for the octets k
pub record Room (space : List ℕ) (end : ℕ) (k : List ℕ) : Type 0 where
  pub fits : length k ≤ end
  pub within : end ≤ length space
