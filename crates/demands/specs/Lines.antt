-- Lines of the table of refusals (document 01's, and the numbers that document 02 adds): a refusal is given exactly in its case, and the
-- first that applies. A line says what the result is, with the reason and the place that a refusal holds.
use Rattle.std.specs.Prelude.{◌≡◌, List, [], ◌∷◌, ◌⊎◌, ℕ, ◌<◌, length, Ok, Err}
use Rattle.name.specs.declared.Fault.{Fault}
use Rattle.name.specs.Wire.{reading_of}
use Rattle.name.specs.Reader.{Longest}
use Rattle.name.specs.Answer.{Result, answer, refusal, fault_values}

-- the case holds and the result is this refusal, or the case does not hold and the later lines say what the result is
abbrev pub Line : {A : Type 0} → Result A → Result A → Type 0 → Type 0 → Type 0
Line result says case later = (case × (result ≡ says)) ⊎ ((case → ⊥) × later)

-- 2, 4 and 11: these octets are not well formed, and the refusal holds the reason and the place of their fault
abbrev pub FaultLine : {A : Type 0} → Result A → ℕ → List ℕ → Type 0 → Type 0
FaultLine result n octets later =
    ((f : Fault) × (reading_of octets ≡ Err f) × (result ≡ refusal n (fault_values f))) ⊎ ((reading_of octets ≡ Ok tt) × later)

-- 10 and 14: these octets are none of the accepted ones, and the refusal holds the length of the longest beginning that one of those also
-- begins with
abbrev pub PlaceLine : Result ℕ → ℕ → (List ℕ → Type 0) → List ℕ → Type 0 → Type 0
PlaceLine result n Accepted octets later =
    ((Accepted octets → ⊥) × (p : ℕ) × Longest Accepted octets p × (result ≡ refusal n (p ∷ []))) ⊎ (Accepted octets × later)

-- the last line: 9 where the answer is longer than the space, otherwise the number of its octets
abbrev pub RoomLine : Result ℕ → ℕ → List ℕ → Type 0
RoomLine result room octets = Line result (refusal 9 []) (room < length octets) (result ≡ answer (length octets))

-- 4, then 9: what is made of a name
abbrev pub NameLines : Result ℕ → List ℕ → ℕ → List ℕ → Type 0
NameLines result name room octets = FaultLine result 4 name (RoomLine result room octets)

-- a refusal with a place, then 9: what a reader answers where it accepts the octets
abbrev pub ReadLines : Result ℕ → ℕ → (List ℕ → Type 0) → List ℕ → ℕ → Result (List ℕ) → Type 0
ReadLines result n Accepted octets room read =
    PlaceLine result n Accepted octets ((a : List ℕ) × (read ≡ answer a) × RoomLine result room a)
