-- The owner label of a hash (document 02, Twelve): the 32 digits of its number in base 32, each as a character of base32hex (RFC 4648
-- section 7), lower case, without padding. It is read in either letter case.
use Rattle.std.specs.Prelude.{ℕ, ◌+◌, ◌-◌, Bool, cond, ◌&&◌, List, map, length, ◌==◌, nat_le, nat_lt}
use Rattle.space.specs.Fold.{folded}
use Rattle.hash.specs.Digits.{value, digits, are_digits}

-- 0 to 9 for the first ten digits, then a to v
abbrev pub character : ℕ → ℕ
character d = cond (nat_lt d 10) (d + 48) (d + 87)

-- the digit that a lower-case character stands for, and 32 where it stands for none
abbrev pub digit_of : ℕ → ℕ
digit_of c = cond (nat_le 48 c && nat_le c 57) (c - 48) (cond (nat_le 97 c && nat_le c 118) (c - 87) 32)

unfoldable pub label_of : List ℕ → List ℕ
label_of hash = map character (digits 32 32 (value 256 hash))

-- the digits that the characters of a label stand for
abbrev pub label_digits : List ℕ → List ℕ
label_digits label = map digit_of (folded label)

-- 32 characters, each of which stands for a digit
abbrev pub is_label : List ℕ → Bool
is_label label = length label == 32 && are_digits 32 (label_digits label)

unfoldable pub hash_of : List ℕ → List ℕ
hash_of label = digits 256 20 (value 32 (label_digits label))
