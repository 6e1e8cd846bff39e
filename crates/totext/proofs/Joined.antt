-- A text without escapes is the octets of the labels with a dot behind each (`joined`): where it has no more characters than these
-- (`joined_plain`), and where they are all shown and no octet of the name behind its first is a dot (`joined_shown`).
use mathlib.Core.Path.{◌≡◌, refl, sym, ap, ◌∙◌}
use mathlib.Core.List.{List, [], ◌∷◌, ◌++◌, map}
use mathlib.Core.Bool.{Bool, true, false, ◌&&◌, false≢true}
use mathlib.Core.Logic.{◌⊎◌, inl, inr}
use Prim.Native.Nat.{ℕ, suc, ◌+◌, ◌-◌, ◌≤◌, ◌<◌}
use native.Mathlib.Omega.{arith}
use borrow.Author.Tests.{le-leb, leb-true, ne_eqb}
use lib.Dec.{leb}
use lib.ListN.{length, drop, get_or, length-append, length-drop, get_or-map}
use lib.Seq.{get_or-drop}
use Rattle.facts.proofs.Booleans.{both_true, either_true, never_true}
use Rattle.std.specs.Prelude.{Ok}
use Rattle.name.specs.Wire.{reading_of}
use Rattle.name.specs.Labels.{wire, labels_of}
use Rattle.name.specs.Private.Standing.{Standing}
use Rattle.name.proofs.Labels.{wire_some}
use Rattle.name.proofs.Folding.{Case, letter, other, lower_case, folded_is_wire, folded_length}
use Rattle.space.specs.Fold.{lower_of, folded}
use Rattle.space.specs.Private.Put.{folded_part}
use Rattle.order.specs.Order.{folded_labels}
use Rattle.text.specs.Characters.{dot, printable, special}
use Rattle.text.specs.WriteText.{characters_of, label_text, labels_text, text_of}
use Rattle.text.proofs.Characters.{special_cases, characters_plain}
use Rattle.text.proofs.TextLength.{label_text_least, label_text_plain, labels_cons}
use Rattle.text.proofs.TextSteps.{text_labels, left_length, label_here, label_folded, labels_folded}
use Rattle.totext.specs.Private.Shown.{joined, shown, undotted}

joined_cons : (l : List ℕ) (ls : List (List ℕ)) → length (joined (l ∷ ls)) ≡ length l + (1 + length (joined ls))
unfolding joined
joined_cons l ls = omega (arith, length-append l (dot ∷ joined ls))

joined_wire : (ls : List (List ℕ)) → length (joined ls) + 1 ≡ length (wire ls)
unfolding joined
joined_wire [] = refl
joined_wire (l ∷ ls) = omega (arith, joined_cons l ls, joined_wire ls, length-append l (wire ls))

pub joined_length : (s : List ℕ) → reading_of s ≡ Ok tt → length (joined (folded_labels s)) + 1 ≡ length s
joined_length s e = joined_wire (folded_labels s) ∙ sym (ap length (folded_is_wire s e)) ∙ folded_length s

-- ---- as many characters as octets

joined_least : (ls : List (List ℕ)) → length (joined ls) ≤ length (labels_text ls)
unfolding joined labels_text
joined_least [] = omega arith
joined_least (l ∷ ls) = omega (arith, joined_cons l ls, labels_cons l ls, label_text_least l, joined_least ls)

labels_plain : (ls : List (List ℕ)) → length (labels_text ls) ≡ length (joined ls) → labels_text ls ≡ joined ls
unfolding joined labels_text
labels_plain [] e = refl
labels_plain (l ∷ ls) e =
    let n : length (label_text l) + (1 + length (labels_text ls)) ≡ length l + (1 + length (joined ls)) =
    sym (labels_cons l ls) ∙ e ∙ joined_cons l ls in
    rw (
      label_text_plain l (omega (arith, n, label_text_least l, joined_least ls)),
      labels_plain ls (omega (arith, n, label_text_least l, joined_least ls)),
    )

-- ---- all characters shown

-- every octet passes the test
abbrev All : (ℕ → Bool) → List ℕ → Type 0
All test [] = Unit {0}
All test (c ∷ l) = (test c ≡ true) × All test l

all_of : (test : ℕ → Bool) (l : List ℕ) → ((i : ℕ) → i < length l → test (get_or l i 0) ≡ true) → All test l
all_of test [] f = tt
all_of test (c ∷ l) f = (f 0 (omega arith), all_of test l (λ i h. f (suc i) (omega arith)))

all_append : (test : ℕ → Bool) (l m : List ℕ) → All test (l ++ m) → All test l × All test m
all_append test [] m a = (tt, a)
all_append test (c ∷ l) m a = let r = all_append test l m a.1 in ((a.0, r.0), r.1)

shown_printable : (c : ℕ) → shown c ≡ true → printable c ≡ true
shown_printable c e = go (either_true (leb 42 c && leb c 58) (leb 93 c && leb c 126) e)
  where
    go : (leb 42 c && leb c 58 ≡ true) ⊎ (leb 93 c && leb c 126 ≡ true) → printable c ≡ true
    go (inl a) = let r = both_true (leb 42 c) (leb c 58) a in
        rw (le-leb 33 c (omega (arith, leb-true 42 c r.0)), le-leb c 126 (omega (arith, leb-true c 58 r.1)))
    go (inr a) = let r = both_true (leb 93 c) (leb c 126) a in
        rw (le-leb 33 c (omega (arith, leb-true 93 c r.0)), r.1)

shown_alone : (c : ℕ) → shown c ≡ true → undotted c ≡ true → characters_of c ≡ c ∷ []
shown_alone c e u = characters_plain c (shown_printable c e) (never_true (special c) no)
  where
    no : special c ≡ true → ⊥
    no s =
        false≢true (sym (special_cases (λ (n : ℕ). shown n && undotted n ≡ false) refl refl refl refl refl refl refl refl c s) ∙ rw (e, u))

shown_label : (l : List ℕ) → All shown l → All undotted l → label_text l ≡ l
unfolding label_text
shown_label [] a b = refl
shown_label (c ∷ l) a b = rw (shown_alone c a.0 b.0, shown_label l a.1 b.1)

all_behind : (test : ℕ → Bool) (l : List ℕ) → All test l → All test (drop 1 l)
all_behind test [] a = tt
all_behind test (c ∷ l) a = a.1

shown_labels : (ls : List (List ℕ)) → All shown (joined ls) → All undotted (drop 1 (wire ls)) → labels_text ls ≡ joined ls
unfolding joined labels_text
shown_labels [] a b = refl
shown_labels (l ∷ ls) a b =
    let p = all_append shown l (dot ∷ joined ls) a in
    let q = all_append undotted l (wire ls) b in
    rw (shown_label l p.0 q.0, shown_labels ls p.1.1 (all_behind undotted (wire ls) q.1))

-- no octet becomes a dot when it is folded
undotted_lower : (o : ℕ) → undotted o ≡ true → undotted (lower_of o) ≡ true
undotted_lower o e = go (lower_case o)
  where
    go : Case o → undotted (lower_of o) ≡ true
    go (letter p q is) = rw (is, ne_eqb (o + 32) 46 (omega arith))
    go (other f is) = rw is e

module _ (s : List ℕ) (e : reading_of s ≡ Ok tt) where
  pub joined_plain : length (labels_text (folded_labels s)) + 1 ≡ length s → labels_text (folded_labels s) ≡ joined (folded_labels s)
  joined_plain n = labels_plain (folded_labels s) (omega (arith, n, joined_length s e))

  -- the text of a name that is not the root
  pub joined_is_text : (length s ≡ 1 → ⊥) → length (text_of (folded_labels s)) + 1 ≡ length s
      → joined (folded_labels s) ≡ text_of (folded_labels s)
  joined_is_text more n =
      let t : text_of (folded_labels s) ≡ labels_text (folded_labels s) = text_labels s e more in
      sym (t ∙ joined_plain (omega (arith, n, ap length t)))

  pub joined_text : length s ≤ length (labels_text (folded_labels s)) + 1
  joined_text = omega (arith, joined_least (folded_labels s), joined_length s e)

  pub joined_shown : ((i : ℕ) → i < length (joined (folded_labels s)) → shown (get_or (joined (folded_labels s)) i 0) ≡ true)
      → ((i : ℕ) → i < length s - 1 → undotted (get_or s (i + 1) 0) ≡ true) → labels_text (folded_labels s) ≡ joined (folded_labels s)
  joined_shown f g =
      shown_labels (folded_labels s) (all_of shown (joined (folded_labels s)) f)
      (rw (folded_is_wire s e) at (all_of undotted (drop 1 (folded s)) behind))
    where
      behind : (i : ℕ) → i < length (drop 1 (folded s)) → undotted (get_or (drop 1 (folded s)) i 0) ≡ true
      behind i h =
          let z : 1 + i ≡ i + 1 = omega arith in
          rw (get_or-drop 1 (folded s) i 0, z, get_or-map lower_of s (i + 1) 0)
          (undotted_lower (get_or s (i + 1) 0) (g i (omega (arith, length-drop 1 (folded s), folded_length s))))

-- ---- from a place on

module _ (s : List ℕ) (p : ℕ) (st : Standing s p 0) where
  pub joined_none : length s ≤ p + 1 → joined (folded_labels (drop p s)) ≡ []
  unfolding joined
  joined_none h = go (labels_of (drop p s)) (left_length s p st)
    where
      go : (ls : List (List ℕ)) → length (wire ls) ≡ length s - p → joined (map folded ls) ≡ []
      go [] e = refl
      go (l ∷ ls) e = absurd (omega (arith, length-append l (wire ls), wire_some ls))

  pub joined_step : (p + 1 < length s) → joined (folded_labels (drop p s))
      ≡ folded_part s (p + 1) (get_or s p 0) ++ dot ∷ joined (folded_labels (drop (p + 1 + get_or s p 0) s))
  unfolding joined
  joined_step more = rw (label_folded s p st more, labels_folded s p st more, (label_here s p st more).is)
