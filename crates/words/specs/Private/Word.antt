-- Octets as one number, a word, of which each is a digit in base 256.
use Rattle.std.specs.Prelude.{List, [], ◌∷◌, cond, ℕ, zero, suc, ◌+◌, ◌*◌, ◌/◌, ◌%◌, leb, length, take}

-- the first octet is the lowest digit
unfoldable pub word_of : List ℕ → ℕ
word_of [] = 0
word_of (o ∷ s) = word_of s * 256 + o

-- of the first eight octets; 0 where there are fewer
abbrev pub word_at : List ℕ → ℕ
word_at s = cond (leb 8 (length s)) (word_of (take 8 s)) 0

-- the n lowest digits of a word, each of them changed
unfoldable pub each_digit : (ℕ → ℕ) → ℕ → ℕ → ℕ
each_digit f zero w = 0
each_digit f (suc n) w = each_digit f n (w / 256) * 256 + f (w % 256)
