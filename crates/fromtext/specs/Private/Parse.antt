-- What the functions of the text reader promise each other.
use Rattle.std.specs.Prelude.{◌≡◌, List, [], ◌∷◌, ◌++◌, ◌&&◌, cond, ℕ, ◌+◌, ◌≤◌, ◌<◌, leb, length, take, drop, Result as Outcome, Ok, Err}
use Rattle.name.specs.Reader.{found, stops}
use Rattle.text.specs.Characters.{digit, number}
use Rattle.text.specs.ReadText.{read_on, read_escape, read_text}

-- the number v, followed by the digit that comes first; 256, which no octet is, where none does or the number is above `most` (an enum
-- would come back through memory at each digit)
abbrev pub number_at : ℕ → ℕ → List ℕ → ℕ
number_at most v [] = 256
number_at most v (c ∷ s) = cond (digit c && leb (number v c) most) (number v c) 256

-- behind a backslash stands the octet o, and reading goes on at the place `next`
pub record EscapeEnds (t : List ℕ) (p o next : ℕ) : Type 0 where
  pub on : p < next
  pub within : next ≤ length t
  pub octet : o < 256
  pub reads : (done label : List ℕ) → read_escape done label p (drop p t) ≡ read_on done (label ++ o ∷ []) next (drop next t)

-- what stands behind a backslash, where p is the place after it
abbrev pub Escapes : List ℕ → ℕ → Outcome (ℕ × ℕ) ℕ → Type 0
Escapes t p (Ok (o, next)) = EscapeEnds t p o next
Escapes t p (Err m) = (done label : List ℕ) → read_escape done label p (drop p t) ≡ stops m

-- the open label, of `size` octets behind the index `start`
abbrev pub open_label : List ℕ → ℕ → ℕ → List ℕ
open_label octets start size = take size (drop (start + 1) octets)

-- what holds at the place p of a text: the front of the octets is what the reader has done, and behind a free octet stands the open label
pub record Reading (t octets : List ℕ) (start size p : ℕ) : Type 0 where
  pub within : p ≤ length t
  pub array : length octets ≡ 263
  pub small : size ≤ 63
  pub fits : start + size ≤ 254
  pub closes : 1 ≤ size → start + size ≤ 253
  pub reads : read_text t ≡ read_on (take start octets) (open_label octets start size) p (drop p t)

-- what a text is, and the name at the front of the octets
abbrev pub Parses : List ℕ → List ℕ → Outcome ℕ ℕ → Type 0
Parses t octets (Ok n) = (read_text t ≡ found (take n octets)) × (n ≤ 255) × (length octets ≡ 263)
Parses t octets (Err p) = read_text t ≡ stops p
