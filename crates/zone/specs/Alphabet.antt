-- The octets of an alphabet in their order: the least one from a number on, and the greatest one below a number.
use Rattle.std.proofs.Math.Option.{Option, none, some}
use Rattle.std.specs.Prelude.{Bool, true, false, ℕ, zero, suc, ◌-◌}

-- x where the test holds, or else m
abbrev pub pick : Bool → ℕ → Option ℕ → Option ℕ
pick true x m = some x
pick false x m = m

module _ (allowed : ℕ → Bool) where
  -- the least allowed number of the k from x on
  unfoldable pub scan : ℕ → ℕ → Option ℕ
  scan x zero = none
  scan x (suc k) = let r = scan (suc x) k in pick (allowed x) x r

  -- the least octet of the alphabet from x on
  unfoldable pub from : ℕ → Option ℕ
  from x = scan x (256 - x)

  -- the greatest allowed number below x
  unfoldable pub below : ℕ → Option ℕ
  below zero = none
  below (suc x) = let r = below x in pick (allowed x) x r
