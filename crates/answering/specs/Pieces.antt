-- A batch whose input comes in pieces, answered by calls that go on where the last one stopped.
use Rattle.std.specs.Prelude.{◌≡◌, List, [], ◌∷◌, ◌++◌, true, false, ℕ, drop}
use Rattle.answering.specs.Progress.{run_of}

abbrev pub joined : List (List ℕ) → List ℕ
joined [] = []
joined (p ∷ ps) = p ++ joined ps

-- `InPieces s pieces w`: with the octets s in hand and these pieces still to come, calls with any room write w. Before the last piece has
-- come a call is told that more is to come, and may be left out; what it does not read stays in hand.
pub data InPieces : List ℕ → List (List ℕ) → List ℕ → Type 0 where
  piece : (s p : List ℕ) (ps : List (List ℕ)) (w : List ℕ) → InPieces (s ++ p) ps w → InPieces s (p ∷ ps) w
  step : (s : List ℕ) (ps : List (List ℕ)) (w : List ℕ) (room : ℕ) → (run_of false room s).ended ≡ false
      → InPieces (drop (run_of false room s).read s) ps w → InPieces s ps ((run_of false room s).octets ++ w)
  wrong_end : (s : List ℕ) (ps : List (List ℕ)) (room : ℕ) → (run_of false room s).ended ≡ true
      → InPieces s ps (run_of false room s).octets
  last_step : (s w : List ℕ) (room : ℕ) → (run_of true room s).ended ≡ false
      → InPieces (drop (run_of true room s).read s) [] w → InPieces s [] ((run_of true room s).octets ++ w)
  last_end : (s : List ℕ) (room : ℕ) → (run_of true room s).ended ≡ true → InPieces s [] (run_of true room s).octets
