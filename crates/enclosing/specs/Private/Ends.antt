-- The octets at the end of two lists that are the same, folded, all of them.
use Rattle.std.specs.Prelude.{◌≡◌, List, ℕ, ◌-◌, ◌≤◌, length, drop}
use Rattle.space.specs.Fold.{folded}

-- the last n are the same, and no more
pub record SameEnd (s t : List ℕ) (n : ℕ) : Type 0 where
  pub first : n ≤ length s
  pub second : n ≤ length t
  pub same : drop (length s - n) (folded s) ≡ drop (length t - n) (folded t)
  pub most : (m : ℕ) → m ≤ length s → m ≤ length t → drop (length s - m) (folded s) ≡ drop (length t - m) (folded t) → m ≤ n
