-- Texts without escapes: the labels as they are, with a dot behind each, and which characters are seen at once to stand for themselves.
use Rattle.std.specs.Prelude.{◌≡◌, List, [], ◌∷◌, ◌++◌, Bool, true, ◌&&◌, ◌||◌, not, ℕ, ◌+◌, ◌<◌, eqb, leb, get_or}
use Rattle.text.specs.Characters.{dot}

-- the octets of labels, with a dot after each label
unfoldable pub joined : List (List ℕ) → List ℕ
joined [] = []
joined (l ∷ ls) = l ++ dot ∷ joined ls

-- a dot, or a character that stands for itself: `*` to `:`, and `]` to `~`
abbrev pub shown : ℕ → Bool
shown c = leb 42 c && leb c 58 || leb 93 c && leb c 126

abbrev pub undotted : ℕ → Bool
undotted c = not (eqb c dot)

-- where r is true, n characters of s from the index p on are shown, and the octets of t one further on are no dots; where it is false,
-- nothing is said
pub record Each (s t : List ℕ) (p n : ℕ) (r : Bool) : Type 0 where
  pub pass : r ≡ true → (i : ℕ) → i < n → shown (get_or s (p + i) 0) && undotted (get_or t (p + i + 1) 0) ≡ true
