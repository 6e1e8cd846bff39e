-- The length of texts: a label's octets have one to four characters each, so that a text has no fewer characters than its name has octets,
-- but for the last; where it has as many, they are the octets themselves (`label_text_plain`). A text has at most 1004 characters
-- (`text_at_most_1004`).
use mathlib.Core.Path.{◌≡◌, refl, sym, ap, ◌∙◌}
use mathlib.Core.List.{List, [], ◌∷◌, ◌++◌, map}
use Prim.Native.Nat.{ℕ, ◌+◌, ◌*◌, ◌≤◌}
use native.Mathlib.Omega.{arith}
use lib.ListN.{length, length-append, length-map}
use Rattle.std.specs.Prelude.{Ok}
use Rattle.name.specs.Wire.{reading_of}
use Rattle.name.specs.Labels.{wire, Sizes, labels_of}
use Rattle.name.proofs.Whole.{whole_fits}
use Rattle.name.proofs.Labels.{label_sizes}
use Rattle.space.specs.Fold.{folded}
use Rattle.name.proofs.Folding.{folded_length, folded_sizes, folded_label_lengths, folded_is_wire}
use Rattle.order.specs.Order.{folded_labels}
use Rattle.text.specs.Characters.{dot}
use Rattle.text.specs.WriteText.{characters_of, label_text, labels_text, text_of}
use Rattle.text.proofs.Characters.{width_some, width_four, width_alone}

-- ---- a label

pub label_cons : (o : ℕ) (l : List ℕ) → length (label_text (o ∷ l)) ≡ length (characters_of o) + length (label_text l)
unfolding label_text
label_cons o l = length-append (characters_of o) (label_text l)

pub label_append : (s t : List ℕ) → length (label_text (s ++ t)) ≡ length (label_text s) + length (label_text t)
unfolding label_text
label_append [] t = omega arith
label_append (o ∷ s) t = omega (arith, label_cons o (s ++ t), label_cons o s, label_append s t)

pub label_text_least : (l : List ℕ) → length l ≤ length (label_text l)
label_text_least [] = omega arith
label_text_least (o ∷ l) = omega (arith, label_cons o l, width_some o, label_text_least l)

pub label_text_most : (l : List ℕ) → length (label_text l) ≤ 4 * length l
unfolding label_text
label_text_most [] = omega arith
label_text_most (o ∷ l) = omega (arith, label_cons o l, width_four o, label_text_most l)

pub label_text_plain : (l : List ℕ) → length (label_text l) ≡ length l → label_text l ≡ l
unfolding label_text
label_text_plain [] e = refl
label_text_plain (o ∷ l) e =
    let n : length (characters_of o) + length (label_text l) ≡ length (o ∷ l) = sym (label_cons o l) ∙ e in
    rw (
      width_alone o (omega (arith, n, width_some o, label_text_least l)),
      label_text_plain l (omega (arith, n, width_some o, label_text_least l)),
    )

-- ---- labels

pub labels_cons : (l : List ℕ) (ls : List (List ℕ)) → length (labels_text (l ∷ ls)) ≡ length (label_text l) + (1 + length (labels_text ls))
unfolding labels_text
labels_cons l ls = omega (arith, length-append (label_text l) (dot ∷ labels_text ls))

-- a length octet becomes a dot, any other octet four characters at most
pub labels_text_most : (ls : List (List ℕ)) → length (labels_text ls) + 3 * length ls + 4 ≤ 4 * length (wire ls)
unfolding labels_text
labels_text_most [] = omega arith
labels_text_most (l ∷ ls) = omega (arith, labels_cons l ls, label_text_most l, labels_text_most ls, length-append l (wire ls))

-- a label has a length octet and 63 octets at most
pub labels_wire_most : (ls : List (List ℕ)) → Sizes ls → length (wire ls) ≤ 64 * length ls + 1
labels_wire_most [] v = omega arith
labels_wire_most (l ∷ ls) v = omega (arith, v.1, labels_wire_most ls v.2, length-append l (wire ls))

-- written as octets of a label, the octets of a name have the characters of its text, but for the dots, those of its length octets, and
-- the four of the last octet
wire_text_length : (ls : List (List ℕ))
    → length (label_text (wire ls)) + length ls ≡ length (labels_text ls) + length (label_text (map length ls)) + 4
unfolding label_text labels_text
wire_text_length [] = omega arith
wire_text_length (l ∷ ls) =
    omega (
      arith,
      label_cons (length l) (l ++ wire ls),
      label_append l (wire ls),
      labels_cons l ls,
      label_cons (length l) (map length ls),
      wire_text_length ls,
    )

-- ---- a name

pub name_text_length : (s : List ℕ) → reading_of s ≡ Ok tt
    → length (label_text (folded s)) + length (labels_of s)
    ≡ length (labels_text (folded_labels s)) + length (label_text (map length (labels_of s))) + 4
name_text_length s e =
    omega (
      arith,
      wire_text_length (folded_labels s),
      ap (λ (x : List ℕ). length (label_text x)) (folded_is_wire s e),
      ap (λ (x : List ℕ). length (label_text x)) (folded_label_lengths (labels_of s)),
      length-map (labels_of s) folded,
    )

pub labels_at_most_1004 : (s : List ℕ) → reading_of s ≡ Ok tt → length (labels_text (folded_labels s)) ≤ 1004
labels_at_most_1004 s e =
    omega (
      arith,
      labels_text_most (folded_labels s),
      labels_wire_most (folded_labels s) (folded_sizes (labels_of s) (label_sizes s e)),
      ap length (folded_is_wire s e),
      folded_length s,
      whole_fits s e,
    )

pub text_at_most_1004 : (s : List ℕ) → reading_of s ≡ Ok tt → length (text_of (folded_labels s)) ≤ 1004
text_at_most_1004 s e = go (folded_labels s) (labels_at_most_1004 s e)
  where
    go : (ls : List (List ℕ)) → length (labels_text ls) ≤ 1004 → length (text_of ls) ≤ 1004
    go [] h = omega arith
    go (l ∷ ls) h = h
