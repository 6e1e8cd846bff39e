-- A name's text from a place on: the characters of an octet and those behind it, the text of a label and those behind it, and the end.
use mathlib.Core.Path.{◌≡◌, refl, sym, ap, ◌∙◌}
use mathlib.Core.List.{List, [], ◌∷◌, ◌++◌, map}
use Prim.Native.Nat.{ℕ, suc, ◌+◌, ◌-◌, ◌≤◌, ◌<◌}
use native.Mathlib.Numerals.{add-one}
use native.Mathlib.Omega.{arith}
use lib.ListN.{length, drop, get_or, length-append, length-drop, drop_of_length-le}
use lib.Seq.{drop-cons}
use Rattle.std.specs.Prelude.{Ok}
use Rattle.name.specs.Wire.{reading_of}
use Rattle.name.specs.Labels.{wire, labels_of}
use Rattle.name.specs.Private.Standing.{Standing}
use Rattle.space.specs.Fold.{lower_of, folded}
use Rattle.space.specs.Private.Put.{folded_part}
use Rattle.space.proofs.Putting.{part_length, part_at}
use Rattle.name.proofs.Labels.{wire_some, wire_labels}
use Rattle.name.proofs.LabelSteps.{Here, here, counted}
use Rattle.order.specs.Order.{folded_labels}
use Rattle.text.specs.Characters.{dot}
use Rattle.text.specs.WriteText.{characters_of, label_text, labels_text, text_of}

-- ---- the octets of a label

module _ (s : List ℕ) (from n : ℕ) (has : from + n ≤ length s) where
  -- the characters of the octets from the i-th on are those of the i-th and of those behind it
  pub octets_step : (i : ℕ) → i < n
      → label_text (drop i (folded_part s from n))
      ≡ characters_of (lower_of (get_or s (from + i) 0)) ++ label_text (drop (i + 1) (folded_part s from n))
  unfolding label_text
  octets_step i h =
      let l : List ℕ = folded_part s from n in
      ap label_text (drop-cons l i 0 (omega (arith, part_length s from n has)))
      ∙ ap (λ (x : ℕ). characters_of x ++ label_text (drop (suc i) l)) (part_at s from n i h)
      ∙ ap (λ (j : ℕ). characters_of (lower_of (get_or s (from + i) 0)) ++ label_text (drop j l)) (sym (add-one i))

  pub octets_none : (i : ℕ) → n ≤ i → label_text (drop i (folded_part s from n)) ≡ []
  unfolding label_text
  octets_none i h =
      let z : length (folded_part s from n) ≤ i = omega (arith, part_length s from n has) in
      ap label_text (drop_of_length-le (folded_part s from n) z)

  pub octets_shorter : (i : ℕ) → i < n
      → length (label_text (drop i (folded_part s from n)))
      ≡ length (characters_of (lower_of (get_or s (from + i) 0))) + length (label_text (drop (i + 1) (folded_part s from n)))
  octets_shorter i h = ap length (octets_step i h) ∙ length-append (characters_of (lower_of (get_or s (from + i) 0))) _

-- ---- the labels of a name

module _ (s : List ℕ) (p : ℕ) (st : Standing s p 0) where
  pub left_length : length (wire (labels_of (drop p s))) ≡ length s - p
  left_length = ap length st.back ∙ length-drop p s

module _ (s : List ℕ) (p : ℕ) (st : Standing s p 0) where
  pub labels_none : length s ≤ p + 1 → labels_text (folded_labels (drop p s)) ≡ []
  unfolding labels_text
  labels_none h = go (labels_of (drop p s)) (left_length s p st)
    where
      go : (ls : List (List ℕ)) → length (wire ls) ≡ length s - p → labels_text (map folded ls) ≡ []
      go [] e = refl
      go (l ∷ ls) e = absurd (omega (arith, length-append l (wire ls), wire_some ls))

  module _ (more : p + 1 < length s) where
    pub label_here : Here s p 1
    label_here = here s p 1 (counted st 1 (go (labels_of (drop p s)) (left_length s p st))) (omega arith)
      where
        go : (ls : List (List ℕ)) → length (wire ls) ≡ length s - p → 1 ≤ length ls
        go [] e = absurd (omega arith)
        go (l ∷ ls) e = omega arith

    pub label_folded : folded_part s (p + 1) (get_or s p 0) ≡ folded label_here.label
    label_folded = rw label_here.octet (ap folded label_here.octets)

    pub labels_folded : folded_labels (drop (p + 1 + get_or s p 0) s) ≡ map folded label_here.rest
    labels_folded = rw label_here.octet (ap (λ (ls : List (List ℕ)). map folded ls) label_here.after)

    pub label_within : p + 1 + get_or s p 0 < length s
    label_within = rw label_here.octet label_here.within

    pub label_next : Standing s (p + 1 + get_or s p 0) 0
    label_next = rw label_here.octet (counted label_here.next 0 (omega arith))

    -- the text from here on is this label's, its dot, and the text from the next label on
    pub labels_step : labels_text (folded_labels (drop p s))
        ≡ label_text (folded_part s (p + 1) (get_or s p 0)) ++ dot ∷ labels_text (folded_labels (drop (p + 1 + get_or s p 0) s))
    unfolding labels_text
    labels_step = rw (label_folded, labels_folded, label_here.is)

    pub labels_shorter : length (labels_text (folded_labels (drop p s)))
        ≡ length (label_text (folded_part s (p + 1) (get_or s p 0))) + 1 + length
        (labels_text (folded_labels (drop (p + 1 + get_or s p 0) s)))
    labels_shorter =
        let l : List ℕ = label_text (folded_part s (p + 1) (get_or s p 0)) in
        let ls : List (List ℕ) = folded_labels (drop (p + 1 + get_or s p 0) s) in
        omega (arith, ap length labels_step, length-append l (dot ∷ labels_text ls))

-- ---- the whole text

module _ (s : List ℕ) (e : reading_of s ≡ Ok tt) where
  pub text_root : length s ≡ 1 → text_of (folded_labels s) ≡ dot ∷ []
  text_root one = go (labels_of s) (ap length (wire_labels s e))
    where
      go : (ls : List (List ℕ)) → length (wire ls) ≡ length s → text_of (map folded ls) ≡ dot ∷ []
      go [] n = refl
      go (l ∷ ls) n = absurd (omega (arith, length-append l (wire ls), wire_some ls))

  pub text_labels : (length s ≡ 1 → ⊥) → text_of (folded_labels s) ≡ labels_text (folded_labels s)
  text_labels more = go (labels_of s) (ap length (wire_labels s e))
    where
      go : (ls : List (List ℕ)) → length (wire ls) ≡ length s → text_of (map folded ls) ≡ labels_text (map folded ls)
      go [] n = absurd (more (omega arith))
      go (l ∷ ls) n = refl
