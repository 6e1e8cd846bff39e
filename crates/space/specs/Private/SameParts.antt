-- Whether a part of one list and a part of another are the same, folded, and the bit in which octets that are may differ.
use Rattle.std.specs.Prelude.{List, Bool, cond, ◌&&◌, ℕ, leb}
use Rattle.space.specs.Fold.{lower_of}
use Rattle.space.specs.Same.{same_octets}
use Rattle.space.specs.Private.Put.{folded_part}

-- n octets of s from the index p on and n of t from the index q on
unfoldable pub same_parts : List ℕ → ℕ → List ℕ → ℕ → ℕ → Bool
same_parts s p t q n = same_octets (folded_part s p n) (folded_part t q n)

abbrev pub small_letter : ℕ → Bool
small_letter o = leb 97 o && leb o 122

-- 32 for a letter, whose two cases differ in that bit, and 0 for any other octet
abbrev pub case_bit : ℕ → ℕ
case_bit o = cond (small_letter (lower_of o)) 32 0
