-- One window of a bitmap, for every window number (RFC 4034 section 4.1.2): its number, how many octets it has, and an octet for each eight
-- types, of which the first is the highest bit. Its last type decides how many octets there are.
use Rattle.std.specs.Prelude.{List, [], ◌∷◌, ◌++◌, cond, ℕ, zero, suc, ◌+◌, ◌-◌, ◌*◌, ◌/◌, ◌%◌, ◌^◌, leb}
use Rattle.types.specs.Sets.{below, from, last_of}

-- ---- from octets to types

-- the types of the n lowest bits of an octet; `first` is the type of the highest of these bits
unfoldable pub bit_types : ℕ → ℕ → ℕ → List ℕ
bit_types first zero octet = []
bit_types first (suc n) octet =
    cond (leb (2 ^ n) octet) (first ∷ bit_types (first + 1) n (octet - 2 ^ n)) (bit_types (first + 1) n octet)

-- the types of octets, eight to an octet
unfoldable pub octet_types : ℕ → List ℕ → List ℕ
octet_types first [] = []
octet_types first (o ∷ s) = bit_types first 8 o ++ octet_types (first + 8) s

-- ---- from types to octets

-- the octet that has the bits of these types; the lowest bit is that of the type before `end`
unfoldable pub octet_of : ℕ → List ℕ → ℕ
octet_of end [] = 0
octet_of end (t ∷ ts) = 2 ^ (end - (t + 1)) + octet_of end ts

-- n octets of types from `first` on
unfoldable pub octets_of : ℕ → ℕ → List ℕ → List ℕ
octets_of zero first types = []
octets_of (suc n) first types = octet_of (first + 8) (below (first + 8) types) ∷ octets_of n (first + 8) (from (first + 8) types)

-- how many octets a window with this last type has
abbrev pub octet_count : ℕ → ℕ
octet_count t = t % 256 / 8 + 1

-- the window of the types that it has; there is none where it has none
abbrev pub window_of : ℕ → List ℕ → List ℕ
window_of w [] = []
window_of w (t ∷ ts) = w ∷ octet_count (last_of t ts) ∷ octets_of (octet_count (last_of t ts)) (256 * w) (t ∷ ts)
