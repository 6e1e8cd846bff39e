-- What a space holds after octets are put into it, all of them or none.
use Rattle.std.specs.Prelude.{List, ◌++◌, cond, ℕ, ◌+◌, ◌-◌, min, max, leb, length, take, drop}
use Rattle.space.specs.Fold.{folded}

-- the space d with the octets k from the index `at` on; d itself where they have no room
unfoldable pub put : List ℕ → ℕ → List ℕ → List ℕ
put d at k = cond (leb (at + length k) (length d)) (take at d ++ k ++ drop (at + length k) d) d

-- n octets from the index `from` on, folded
abbrev pub folded_part : List ℕ → ℕ → ℕ → List ℕ
folded_part s from n = folded (take n (drop from s))

-- with n octets of s from the index `from` on, folded; d itself where s has not so many
unfoldable pub put_folded : List ℕ → ℕ → List ℕ → ℕ → ℕ → List ℕ
put_folded d at s from n = cond (leb (from + n) (length s)) (put d at (folded_part s from n)) d

-- how many of the last octets of a list of this size are put before the index `end`, where so many of them are to stand there: 16 at least,
-- if the list and the space before the index have so many
unfoldable pub end_count : ℕ → ℕ → ℕ → ℕ
end_count rest size end = cond (leb 16 (min size end)) (max rest 16) rest

-- with the last n octets of s, folded, before the index `end`; d itself where they have no room there
abbrev pub put_last : List ℕ → ℕ → List ℕ → ℕ → List ℕ
put_last d end s n = cond (leb n end) (put_folded d (end - n) s (length s - n) n) d

-- with the octets of s from the index `from` on, folded, before the index `end`, and maybe some that stand before them in s
unfoldable pub put_end : List ℕ → ℕ → List ℕ → ℕ → List ℕ
put_end d end s from = put_last d end s (end_count (length s - from) (length s) end)

-- the n octets of a list from the index `from` on, put to its front; the list itself where there are not so many
unfoldable pub kept : List ℕ → ℕ → ℕ → List ℕ
kept s from n = cond (leb (from + n) (length s)) (put s 0 (take n (drop from s))) s
