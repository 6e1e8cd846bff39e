-- Where the labels of a name begin: the places of their length octets, from the left, and the operation that tells them.
use Rattle.std.specs.Prelude.{List, [], ◌∷◌, cond, ℕ, zero, suc, ◌+◌, eqb, take, drop, get_or}
use Rattle.name.specs.Wire.{reading_of}
use Rattle.name.specs.Answer.{Result, answer, refuse_broken}

-- the places from p on, where k octets of a label are still to come
unfoldable pub starts_from : ℕ → ℕ → List ℕ → List ℕ
starts_from p k [] = []
starts_from p zero (o ∷ s) = cond (eqb o 0) [] (p ∷ starts_from (p + 1) o s)
starts_from p (suc k) (o ∷ s) = starts_from (p + 1) k s

-- the places of a well formed name's labels
abbrev pub starts_of : List ℕ → List ℕ
starts_of s = starts_from 0 0 s

-- the octets of the label that begins at the place p
abbrev pub label_at : List ℕ → ℕ → List ℕ
label_at s p = take (get_or s p 0) (drop (p + 1) s)

-- 4, or the places, an octet each
abbrev pub label_places_of : List ℕ → Result (List ℕ)
label_places_of name = refuse_broken (reading_of name) 4 (answer (starts_of name))
