-- The depth that a number stands for.
use Rattle.std.specs.Prelude.{ℕ, zero, suc}
use Rattle.checks.specs.declared.Depth.{Depth}
use Rattle.checks.specs.declared.Depth.TheVariants.{One, Two, Three, Other}

abbrev pub depth_of : ℕ → Depth
depth_of zero = Other
depth_of (suc zero) = One
depth_of (suc (suc zero)) = Two
depth_of (suc (suc (suc zero))) = Three
depth_of (suc (suc (suc (suc n)))) = Other
