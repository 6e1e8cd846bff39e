-- Examples by computation: document 02's bitmap of 37 octets, the empty set, single types at the borders of windows and octets, and where
-- octets that are no bitmap stop the reader.
use mathlib.Core.Path.{◌≡◌, refl}
use mathlib.Core.List.{List, [], ◌∷◌, ◌++◌}
use Prim.Native.Nat.{ℕ}
use lib.ListN.{length, replicate}
use Rattle.name.specs.Answer.{answer, refusal}
use Rattle.types.specs.Sets.{rising, below, from, has}
use Rattle.types.specs.Window.{bit_types, octet_of, octets_of}
use Rattle.types.specs.Bitmap.{windows_of, bitmap_of}
use Rattle.types.specs.ReadTypes.{read_number, read_count, read_octets}
use Rattle.types.specs.Answers.{read_types_of, write_types_of, has_type_of, count_types_of, smallest_type_of, largest_type_of}

-- A, MX, RRSIG, NSEC and type 1234
abbrev example : List ℕ
example = 1 ∷ 15 ∷ 46 ∷ 47 ∷ 1234 ∷ []

abbrev example_bitmap : List ℕ
example_bitmap = 0x00 ∷ 0x06 ∷ 0x40 ∷ 0x01 ∷ 0x00 ∷ 0x00 ∷ 0x00 ∷ 0x03 ∷ 0x04 ∷ 0x1b ∷ replicate 26 0 ++ 0x20 ∷ []

example_written : (write_types_of example ≡ answer example_bitmap) × (length example_bitmap ≡ 37)
unfolding rising below from octet_of octets_of windows_of
example_written = (refl, refl)

pub example_read : read_types_of example_bitmap ≡ answer example
unfolding bit_types read_number read_count read_octets
example_read = refl

example_asked : (has_type_of example_bitmap 1234 ≡ answer 1) × (has_type_of example_bitmap 1235 ≡ answer 0)
    × (count_types_of example_bitmap ≡ answer 5)
    × (smallest_type_of example_bitmap ≡ answer 2) × (largest_type_of example_bitmap ≡ answer 1235)
unfolding has bit_types read_number read_count read_octets
example_asked = (refl, refl, refl, refl, refl)

empty_set : (write_types_of [] ≡ answer []) × (read_types_of [] ≡ answer []) × (smallest_type_of [] ≡ answer 0)
    × (largest_type_of [] ≡ answer 0)
unfolding rising below from octet_of octets_of windows_of read_number
empty_set = (refl, refl, refl, refl)

-- the first and the last type of an octet, of a window, and of all
single_types : (bitmap_of (0 ∷ []) ≡ 0 ∷ 1 ∷ 0x80 ∷ []) × (bitmap_of (7 ∷ []) ≡ 0 ∷ 1 ∷ 0x01 ∷ [])
    × (bitmap_of (8 ∷ []) ≡ 0 ∷ 2 ∷ 0 ∷ 0x80 ∷ [])
    × (bitmap_of (255 ∷ []) ≡ 0 ∷ 32 ∷ replicate 31 0 ++ 0x01 ∷ []) × (bitmap_of (256 ∷ []) ≡ 1 ∷ 1 ∷ 0x80 ∷ [])
    × (bitmap_of (65535 ∷ []) ≡ 255 ∷ 32 ∷ replicate 31 0 ++ 0x01 ∷ [])
unfolding below from octet_of octets_of windows_of
single_types = (refl, refl, refl, refl, refl, refl)

-- a list that repeats a type, and one that falls
not_rising : (write_types_of (1 ∷ 15 ∷ 15 ∷ 46 ∷ []) ≡ refusal 15 (2 ∷ [])) × (write_types_of (15 ∷ 1 ∷ []) ≡ refusal 15 (1 ∷ []))
unfolding rising
not_rising = (refl, refl)

-- a window number alone, a window of 0 octets, of 33, one that is cut, and one whose last octet is 0
window_refused : (read_types_of (0 ∷ []) ≡ refusal 15 (1 ∷ [])) × (read_types_of (0 ∷ 0 ∷ []) ≡ refusal 15 (1 ∷ []))
    × (read_types_of (0 ∷ 33 ∷ replicate 33 1) ≡ refusal 15 (1 ∷ [])) × (read_types_of (0 ∷ 3 ∷ 1 ∷ 0 ∷ []) ≡ refusal 15 (4 ∷ []))
    × (read_types_of (0 ∷ 2 ∷ 1 ∷ 0 ∷ []) ≡ refusal 15 (3 ∷ []))
unfolding bit_types read_number read_count read_octets
window_refused = (refl, refl, refl, refl, refl)

-- a window number that is equal to the one before it, one that is less, and one after 255
number_refused : (read_types_of (1 ∷ 1 ∷ 1 ∷ 1 ∷ 1 ∷ 1 ∷ []) ≡ refusal 15 (3 ∷ []))
    × (read_types_of (1 ∷ 1 ∷ 1 ∷ 0 ∷ []) ≡ refusal 15 (3 ∷ []))
    × (read_types_of (255 ∷ 1 ∷ 1 ∷ 255 ∷ []) ≡ refusal 15 (3 ∷ []))
unfolding bit_types read_number read_count read_octets
number_refused = (refl, refl, refl)
