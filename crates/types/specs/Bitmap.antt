-- The bitmap of a set of types: its windows in rising order (document 02, Five). The laws show that each set has exactly one bitmap, and
-- that the reader accepts exactly the bitmaps of sets.
use Rattle.std.specs.Prelude.{◌≡◌, List, [], ◌++◌, ℕ, zero, suc, ◌+◌, ◌*◌}
use Rattle.name.specs.Reader.{Longest as LongestOf}
use Rattle.types.specs.Sets.{IsSet, below, from}
use Rattle.types.specs.Window.{window_of}

-- n windows from the window w on, of the types from its first one on
unfoldable pub windows_of : ℕ → ℕ → List ℕ → List ℕ
windows_of zero w types = []
windows_of (suc n) w types = window_of w (below (256 * w + 256) types) ++ windows_of n (w + 1) (from (256 * w + 256) types)

abbrev pub bitmap_of : List ℕ → List ℕ
bitmap_of types = windows_of 256 0 types

-- these octets are the bitmap of this set
pub record HasBitmap (types octets : List ℕ) : Type 0 where
  pub set : IsSet types
  pub is : bitmap_of types ≡ octets

-- these octets are the bitmap of some set
pub record IsBitmap (octets : List ℕ) : Type 0 where
  pub types : List ℕ
  pub has : HasBitmap types octets

-- the longest beginning of these octets that some bitmap also begins with has p octets
abbrev pub Longest : List ℕ → ℕ → Type 0
Longest octets p = LongestOf IsBitmap octets p
