-- The sorting key of a name (document 01, "The sorting key"): labels from the right, each as its folded octets followed by 00.
use Rattle.std.specs.Prelude.{List, [], ◌∷◌, reverse, ℕ, zero, suc}
use Rattle.name.specs.Wire.{reading_of}
use Rattle.name.specs.Answer.{Result, answer, refuse_broken}
use Rattle.order.specs.Order.{folded_labels}

-- an octet before the octets k: 0 is written 01 01, 1 is written 01 02, any other as itself
abbrev pub coded : ℕ → List ℕ → List ℕ
coded zero k = 1 ∷ 1 ∷ k
coded (suc zero) k = 1 ∷ 2 ∷ k
coded (suc (suc o)) k = suc (suc o) ∷ k

-- a label and the 00 that follows it, before the octets k
unfoldable pub label_key : List ℕ → List ℕ → List ℕ
label_key [] k = 0 ∷ k
label_key (o ∷ l) k = coded o (label_key l k)

-- of labels, the rightmost first
unfoldable pub right_key : List (List ℕ) → List ℕ
right_key [] = []
right_key (l ∷ ls) = label_key l (right_key ls)

-- of a name's folded labels, the leftmost first
abbrev pub key_of : List (List ℕ) → List ℕ
key_of ls = right_key (reverse ls)

-- writing a name's key: 4, or the key of its folded labels
abbrev pub write_key_of : List ℕ → Result (List ℕ)
write_key_of name = refuse_broken (reading_of name) 4 (answer (key_of (folded_labels name)))
