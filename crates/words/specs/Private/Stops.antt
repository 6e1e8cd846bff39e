-- Which octets of a word are not characters that stand for themselves.
use Rattle.std.specs.Prelude.{cond, ℕ, eqb}
use Rattle.std.specs.Int.Bits.{bit_and}
use Rattle.text.specs.Characters.{plain}
use Rattle.words.specs.Private.Word.{each_digit}

-- of one octet
abbrev pub stop_mark : ℕ → ℕ
stop_mark o = cond (plain o) 0 128

-- of eight octets; with one that is 128 or more, the first alone is marked
abbrev pub stop_marks : ℕ → ℕ
stop_marks w = cond (eqb (bit_and w 0x8080808080808080) 0) (each_digit stop_mark 8 w) 128
