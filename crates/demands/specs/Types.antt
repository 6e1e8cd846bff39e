-- Request Five of document 02, which types exist, over the definitions that the contracts of the operations on type
-- bitmaps cite. Each part is one of its sentences.
use Rattle.std.specs.Prelude.{◌≡◌, List, [], ◌∷◌, ◌++◌, ◌↔◌, true, length, take, get_or, replicate}
use Rattle.std.specs.Prelude.{ℕ, ◌+◌, ◌-◌, ◌*◌, ◌/◌, ◌%◌, ◌^◌, ◌≤◌, ◌<◌}
use Rattle.space.specs.Octets.{Octets}
use Rattle.name.specs.Answer.{answer, refusal, fitted}
use Rattle.types.specs.Sets.{IsSet, has}
use Rattle.types.specs.Window.{octet_types}
use Rattle.types.specs.Bitmap.{bitmap_of, HasBitmap, IsBitmap, Longest}
use Rattle.types.specs.Answers.{read_types_of, write_types_of, has_type_of, count_types_of, smallest_type_of, largest_type_of}
use Rattle.demands.specs.Lines.{ReadLines}

-- octets may be those of a window: 1 to 32, the last of which is not 0
pub record WindowOctets (octets : List ℕ) : Type 0 where
  pub are : Octets octets
  pub some : 1 ≤ length octets
  pub most : length octets ≤ 32
  pub last : 1 ≤ get_or octets (length octets - 1) 0

-- a type is one of a list
abbrev pub Among : ℕ → List ℕ → Type 0
Among t types = (i : ℕ) × (i < length types) × (get_or types i 0 ≡ t)

-- the numbers of a list are types
abbrev pub AreTypes : List ℕ → Type 0
AreTypes types = (i : ℕ) → get_or types i 0 < 65536

-- the request
pub record Types : Type 0 where
  -- what a window is, for every window number: these octets, read as the types whose bits are set, of which the first is the highest
  pub window : (w : ℕ) (octets : List ℕ) → w ≤ 255 → WindowOctets octets
      → read_types_of (w ∷ length octets ∷ octets) ≡ answer (octet_types (256 * w) octets)
  pub bit : (w t : ℕ) (octets : List ℕ) → WindowOctets octets → 256 * w ≤ t → t < 256 * w + 8 * length octets
      → has t (octet_types (256 * w) octets) ≡ true ↔ get_or octets (t % 256 / 8) 0 / 2 ^ (7 - t % 8) % 2 ≡ 1
  -- the reader gives the strictly rising list of the types whose bitmap it is, and reads nothing else
  pub reads : (octets types : List ℕ) → read_types_of octets ≡ answer types ↔ HasBitmap types octets
  -- any other octets get 15, however small the space, and 9 comes after it
  pub read : (octets : List ℕ) (room : ℕ) → ReadLines (fitted room (read_types_of octets)) 15 IsBitmap octets room (read_types_of octets)
  -- its place is the length of the longest beginning that some bitmap also begins with
  pub place : (octets : List ℕ) (p : ℕ) → read_types_of octets ≡ refusal 15 (p ∷ []) ↔ (IsBitmap octets → ⊥) × Longest octets p
  -- the writer takes such a list, else 15 and the first index that does not rise
  pub writes : (types : List ℕ) → IsSet types → write_types_of types ≡ answer (bitmap_of types)
  pub index : (types : List ℕ) (i : ℕ) → AreTypes types → write_types_of types ≡ refusal 15 (i ∷ [])
      → (i < length types) × IsSet (take i types) × (IsSet (take (i + 1) types) → ⊥)
  -- each set of types has exactly one bitmap
  pub one_bitmap : (types octets other : List ℕ) → HasBitmap types octets → HasBitmap types other → octets ≡ other
  pub one_set : (types others octets : List ℕ) → HasBitmap types octets → HasBitmap others octets → types ≡ others
  -- what is written is read as it was
  pub read_back : (types octets : List ℕ) → IsSet types → write_types_of types ≡ answer octets → read_types_of octets ≡ answer types
  -- membership, and how many there are
  pub member : (types octets : List ℕ) (t : ℕ) → HasBitmap types octets
      → (has_type_of octets t ≡ answer 1 ↔ Among t types) × (has_type_of octets t ≡ answer 0 ↔ (Among t types → ⊥))
  pub count : (types octets : List ℕ) → HasBitmap types octets → count_types_of octets ≡ answer (length types)
  -- the smallest and the largest type, told as 1 plus the type, or none
  pub extremes : (t : ℕ) (types octets : List ℕ) → HasBitmap (t ∷ types) octets
      → (smallest_type_of octets ≡ answer (1 + t)) × (largest_type_of octets ≡ answer (1 + get_or (t ∷ types) (length types) 0))
  -- all of them refuse alike
  pub refused : (octets : List ℕ) (p t : ℕ) → read_types_of octets ≡ refusal 15 (p ∷ [])
      → (has_type_of octets t ≡ refusal 15 (p ∷ [])) × (count_types_of octets ≡ refusal 15 (p ∷ []))
      × (smallest_type_of octets ≡ refusal 15 (p ∷ [])) × (largest_type_of octets ≡ refusal 15 (p ∷ []))
  -- an empty set has the empty bitmap
  pub empty : HasBitmap [] [] × (smallest_type_of [] ≡ answer 0) × (largest_type_of [] ≡ answer 0)
  -- A, MX, RRSIG, NSEC and type 1234
  pub example : HasBitmap (1 ∷ 15 ∷ 46 ∷ 47 ∷ 1234 ∷ [])
      (0x00 ∷ 0x06 ∷ 0x40 ∷ 0x01 ∷ 0x00 ∷ 0x00 ∷ 0x00 ∷ 0x03 ∷ 0x04 ∷ 0x1b ∷ replicate 26 0 ++ 0x20 ∷ [])
