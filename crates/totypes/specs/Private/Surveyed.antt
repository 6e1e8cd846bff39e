-- What a survey of a list of types promises.
use Rattle.std.specs.Prelude.{◌≡◌, List, ℕ, ◌+◌, ◌/◌, ◌%◌, ◌<◌, length, Result as Outcome, Ok, Err}
use Rattle.types.specs.Sets.{rising}
use Rattle.types.specs.Bitmap.{bitmap_of}

-- the octets of a window that ends with this type: its number, its count and the others
abbrev pub window_size : ℕ → ℕ
window_size t = 3 + t % 256 / 8

abbrev pub Surveys : List ℕ → Outcome ℕ ℕ → Type 0
Surveys types (Ok n) = (rising 0 types ≡ length types) × (n ≡ length (bitmap_of types))
Surveys types (Err i) = (rising 0 types ≡ i) × (i < length types)
