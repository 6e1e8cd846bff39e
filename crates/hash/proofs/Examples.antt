-- Examples by computation: the hash of `example` in RFC 5155, appendix A, and its owner label; carries, borrows and the ends of the ring.
use Rattle.std.proofs.Common.{◌≡◌, ℕ, true, false, List, [], ◌∷◌, ◌++◌, replicate, refl}
use Rattle.name.specs.Answer.{answer, refusal}
use Rattle.hash.specs.Digits.{value, digits, are_digits}
use Rattle.hash.specs.Ring.{carried, after, borrowed, before}
use Rattle.hash.specs.Between.{lies_between}
use Rattle.hash.specs.Label.{label_of, hash_of}
use Rattle.hash.specs.Answers.{after_of, read_label_of, between_of}

-- 0653 68ab eed7 ec6e 9feb a96b 8c8b c3e8 b791 f716
abbrev example : List ℕ
example =
    0x06 ∷ 0x53 ∷ 0x68 ∷ 0xab ∷ 0xee ∷ 0xd7 ∷ 0xec ∷ 0x6e ∷ 0x9f ∷ 0xeb
    ∷ 0xa9 ∷ 0x6b ∷ 0x8c ∷ 0x8b ∷ 0xc3 ∷ 0xe8 ∷ 0xb7 ∷ 0x91 ∷ 0xf7 ∷ 0x16 ∷ []

-- 0p9mhave qvm6t7vb l5lop2u3 t2rp3tom
abbrev example_label : List ℕ
example_label =
    48 ∷ 112 ∷ 57 ∷ 109 ∷ 104 ∷ 97 ∷ 118 ∷ 101 ∷ 113 ∷ 118 ∷ 109 ∷ 54 ∷ 116 ∷ 55 ∷ 118 ∷ 98
    ∷ 108 ∷ 53 ∷ 108 ∷ 111 ∷ 112 ∷ 50 ∷ 117 ∷ 51 ∷ 116 ∷ 50 ∷ 114 ∷ 112 ∷ 51 ∷ 116 ∷ 111 ∷ 109 ∷ []

-- 0P9mhave .., with a letter in upper case
abbrev mixed_label : List ℕ
mixed_label =
    48 ∷ 80 ∷ 57 ∷ 109 ∷ 104 ∷ 97 ∷ 118 ∷ 101 ∷ 113 ∷ 118 ∷ 109 ∷ 54 ∷ 116 ∷ 55 ∷ 118 ∷ 98
    ∷ 108 ∷ 53 ∷ 108 ∷ 111 ∷ 112 ∷ 50 ∷ 117 ∷ 51 ∷ 116 ∷ 50 ∷ 114 ∷ 112 ∷ 51 ∷ 116 ∷ 111 ∷ 109 ∷ []

example_written : label_of example ≡ example_label
unfolding label_of value digits
example_written = refl

example_read : (read_label_of example_label ≡ answer example) × (read_label_of mixed_label ≡ answer example)
unfolding hash_of value digits are_digits
example_read = (refl, refl)

-- 31 characters, 33 with a padding character, and 32 with w or =
label_refused : (read_label_of (replicate 31 48) ≡ refusal 17 []) × (read_label_of (example_label ++ 61 ∷ []) ≡ refusal 17 [])
    × (read_label_of (replicate 31 48 ++ 119 ∷ []) ≡ refusal 17 []) × (read_label_of (replicate 31 48 ++ 61 ∷ []) ≡ refusal 17 [])
unfolding hash_of value digits are_digits
label_refused = (refl, refl, refl, refl)

-- after fe .. fe ff comes fe .. ff 00, and before ff .. 00 comes fe .. ff
carries : (after (0xfe ∷ 0xfe ∷ 0xff ∷ []) ≡ 0xfe ∷ 0xff ∷ 0x00 ∷ []) × (before (0xff ∷ 0x00 ∷ 0x00 ∷ []) ≡ 0xfe ∷ 0xff ∷ 0xff ∷ [])
unfolding after carried before borrowed
carries = (refl, refl)

ring_ends : (after_of (replicate 20 0xff) ≡ answer (replicate 20 0)) × (before (replicate 20 0) ≡ replicate 20 0xff)
unfolding after carried before borrowed
ring_ends = (refl, refl)

-- 19 octets are no hash
hash_refused : (after_of (replicate 19 0) ≡ refusal 17 []) × (between_of example (replicate 21 0) example ≡ refusal 17 [])
hash_refused = (refl, refl)

-- ff lies between fe and 01 and 02 does not; an end does not; between a number and itself lies every other
lies : (lies_between (0xfe ∷ []) (0xff ∷ []) (0x01 ∷ []) ≡ true) × (lies_between (0xfe ∷ []) (0x02 ∷ []) (0x01 ∷ []) ≡ false)
    × (lies_between (0xfe ∷ []) (0x01 ∷ []) (0x01 ∷ []) ≡ false) × (lies_between (0x07 ∷ []) (0x06 ∷ []) (0x07 ∷ []) ≡ true)
unfolding value
lies = (refl, refl, refl, refl)
