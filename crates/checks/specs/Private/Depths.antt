-- The depth of a neighbour (document 01, "Modified neighbours"; document 02, request Ten): how many labels above the apex are allowed. All
-- are the most labels that a name has. A depth that is refused looks for one, which is as good as any.
use Rattle.std.specs.Prelude.{ℕ}
use Rattle.checks.specs.declared.Depth.{Depth}
use Rattle.checks.specs.declared.Depth.TheVariants.{All, One, Two, Three, Other}

abbrev pub labels : Depth → ℕ
labels All = 127
labels One = 1
labels Two = 2
labels Three = 3
labels Other = 1
