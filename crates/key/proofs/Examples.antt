-- Document 01's examples of keys, by computation.
use mathlib.Core.Path.{◌≡◌, refl}
use mathlib.Core.List.{List, [], ◌∷◌}
use Prim.Native.Nat.{ℕ}
use Rattle.name.specs.Answer.{answer, refusal}
use Rattle.name.specs.Wire.{read_from}
use Rattle.name.specs.Labels.{split}
use Rattle.order.specs.Sequence.{labels}
use Rattle.key.specs.Key.{label_key, right_key, write_key_of}
use Rattle.key.specs.ReadKey.{read_key, read_escaped, read_key_of}

abbrev foo_example_com : List ℕ
foo_example_com = 3 ∷ 102 ∷ 79 ∷ 111 ∷ 7 ∷ 101 ∷ 120 ∷ 97 ∷ 109 ∷ 112 ∷ 108 ∷ 101 ∷ 3 ∷ 99 ∷ 111 ∷ 109 ∷ 0 ∷ []

key_of_foo : write_key_of foo_example_com
    ≡ answer (0x63 ∷ 0x6f ∷ 0x6d ∷ 0x00 ∷ 0x65 ∷ 0x78 ∷ 0x61 ∷ 0x6d ∷ 0x70 ∷ 0x6c ∷ 0x65 ∷ 0x00 ∷ 0x66 ∷ 0x6f ∷ 0x6f ∷ 0x00 ∷ [])
unfolding read_from split label_key right_key
key_of_foo = refl

key_zero : read_key_of (0 ∷ []) ≡ refusal 10 (0 ∷ [])
unfolding read_key read_escaped
key_zero = refl

key_a : read_key_of (0x61 ∷ []) ≡ refusal 10 (1 ∷ [])
unfolding read_key read_escaped
key_a = refl

key_root : read_key_of [] ≡ answer (0 ∷ [])
unfolding read_key read_escaped labels
key_root = refl

key_small : read_key_of (1 ∷ 1 ∷ 1 ∷ 2 ∷ 2 ∷ 0 ∷ 0x61 ∷ 0 ∷ []) ≡ answer (1 ∷ 0x61 ∷ 3 ∷ 0 ∷ 1 ∷ 2 ∷ 0 ∷ [])
unfolding read_key read_escaped labels
key_small = refl
