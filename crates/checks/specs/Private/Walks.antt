-- What the walk over a name finds.
use Rattle.std.specs.Prelude.{List, ℕ, ◌≤◌, ◌<◌}
use Rattle.checks.specs.declared.Depth.{Depth}
use Rattle.checks.specs.declared.Depth.TheVariants.{All, One, Two, Three, Other}
use Rattle.checks.specs.Private.Boundary.{Boundary}
use Rattle.checks.specs.Private.LastAbove.{LastAbove}

-- s is a name, a label begins at the place cut, and the last labels before it, at most `depth` of them, begin at the place r; or r is 255,
-- and s is no name or no label begins there
pub record Walks (s : List ℕ) (cut depth r : ℕ) : Type 0 where
  pub most : r ≤ 255
  pub begins : r < 255 → Boundary s cut
  pub last : r < 255 → LastAbove s cut depth r
  pub none : 255 ≤ r → Boundary s cut → ⊥

-- of the places where the last label begins, the last two and the last three, the one for a depth; all labels begin at the front
abbrev pub place_for : Depth → ℕ → ℕ → ℕ → ℕ
place_for All one two three = 0
place_for One one two three = one
place_for Two one two three = two
place_for Three one two three = three
place_for Other one two three = one
