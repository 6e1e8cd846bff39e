-- Request Seven of document 02, the closest encloser and the wildcard above it, over the definitions that the contracts of their operations
-- cite, with the lines of the wildcard.
use Rattle.std.specs.Prelude.{List, [], ℕ, ◌<◌, length}
use Rattle.name.specs.Answer.{Result, refusal, fitted}
use Rattle.encloser.specs.Closest.{ClosestEnclosers}
use Rattle.encloser.specs.Wildcard.{wildcard_name, wildcard_of, WildcardNames}
use Rattle.demands.specs.Lines.{Line, FaultLine, RoomLine}

-- 4 for an encloser that is not well formed, 5 where the wildcard name is longer than 255 octets, then 9
abbrev pub WildcardLines : Result ℕ → List ℕ → ℕ → List ℕ → Type 0
WildcardLines result encloser room octets =
    FaultLine result 4 encloser (Line result (refusal 5 []) (255 < length octets) (RoomLine result room octets))

-- the request
pub record Enclosers : Type 0 where
  -- the longest ancestor that a query in its gap shares with either end, and empty outside of it alone
  pub closest : ClosestEnclosers
  -- the wildcard name: two octets, and then the encloser as it is spelled
  pub wildcards : WildcardNames
  pub wildcard_lines : (encloser : List ℕ) (room : ℕ)
      → WildcardLines (fitted room (wildcard_of encloser)) encloser room (wildcard_name encloser)
