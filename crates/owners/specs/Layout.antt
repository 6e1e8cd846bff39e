-- The owners that names and a table of their starts lay out (document 02, Six): the names back to back, each owner running from its start
-- to the next one, or to the end of the names.
use Rattle.std.specs.Prelude.{List, [], ◌∷◌, cond, ℕ, ◌-◌, leb, length, take, drop, get_or}

-- the octets from a start up to an end; none where the end is beyond the names or not above the start, which is no name
abbrev pub part : List ℕ → ℕ → ℕ → List ℕ
part names start end = cond (leb end (length names)) (take (end - start) (drop start names)) []

-- the octets of each owner
unfoldable pub owners_of : List ℕ → List ℕ → List (List ℕ)
owners_of names [] = []
owners_of names (s ∷ starts) = part names s (get_or starts 0 (length names)) ∷ owners_of names starts
