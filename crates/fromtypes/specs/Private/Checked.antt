-- What the check of a bitmap promises: the place where the reader stops, or that it reads a set, and where the last window begins.
use Rattle.std.specs.Prelude.{◌≡◌, List, [], ◌++◌, ℕ, ◌+◌, ◌-◌, ◌*◌, ◌≤◌, length, drop, get_or, Result as Outcome, Ok, Err}
use Rattle.name.specs.Reader.{Read, found, stops}
use Rattle.types.specs.Window.{octet_types}
use Rattle.types.specs.ReadTypes.{read_types}
use Rattle.types.specs.declared.NoBitmap.{NoBitmap}

-- the set that was read, and none where there is no bitmap
abbrev pub types_found : Read → List ℕ
types_found (found types) = types
types_found (stops p) = []

abbrev pub types_of : List ℕ → List ℕ
types_of bitmap = types_found (read_types bitmap)

abbrev pub IsRead : List ℕ → Type 0
IsRead bitmap = read_types bitmap ≡ found (types_of bitmap)

-- the last window begins at the place `last`: its types are the last ones
pub record LastWindow (bitmap : List ℕ) (last : ℕ) : Type 0 where
  pub earlier : List ℕ
  pub within : last + 3 ≤ length bitmap
  pub most : length bitmap ≤ last + 34
  pub high : 1 ≤ get_or bitmap (length bitmap - 1) 0
  pub is : types_of bitmap ≡ earlier ++ octet_types (256 * get_or bitmap last 0) (drop (last + 2) bitmap)

abbrev pub Checks : List ℕ → Outcome ℕ NoBitmap → Type 0
Checks bitmap (Ok last) = IsRead bitmap × (1 ≤ length bitmap → LastWindow bitmap last)
Checks bitmap (Err w) = read_types bitmap ≡ stops w.0
