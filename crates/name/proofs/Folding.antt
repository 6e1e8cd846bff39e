-- Folding a name: it changes 65 to 90 alone, keeps every length and every label's length, leaves a well formed name well formed, and
-- folds nothing a second time.
use mathlib.Core.Path.{◌≡◌, refl, sym, ap, ◌∙◌}
use mathlib.Core.List.{List, [], ◌∷◌, ◌++◌, map}
use mathlib.Core.Bool.{Bool, true, false}
use Prim.Native.Nat.{ℕ, ◌+◌, ◌≤◌, ◌<◌}
use native.Mathlib.Omega.{arith}
use borrow.Author.Tests.{leb-true, leb-false, le-leb, lt-leb}
use lib.Dec.{leb}
use lib.ListN.{length, length-map}
use Rattle.facts.proofs.Lists.{map_append}
use Rattle.std.specs.Prelude.{Ok}
use Rattle.space.specs.Octets.{Octets}
use Rattle.name.specs.Wire.{reading_of}
use Rattle.name.specs.Labels.{wire, Sizes, labels_of}
use Rattle.space.specs.Fold.{lower_of, folded}
use Rattle.name.proofs.Whole.{whole_fits}
use Rattle.name.proofs.Labels.{labels_read, labels_wire, wire_labels, label_sizes}

-- ---- one octet

pub lower_letter : (o : ℕ) → 65 ≤ o → o ≤ 90 → lower_of o ≡ o + 32
lower_letter o a b = rw (le-leb 65 o a, le-leb o 90 b)

pub lower_small : (o : ℕ) → o < 65 → lower_of o ≡ o
lower_small o h = rw (lt-leb 65 o h)

pub lower_large : (o : ℕ) → 90 < o → lower_of o ≡ o
lower_large o h = rw (le-leb 65 o (omega arith), lt-leb o 90 h)

-- the octet is no letter, or its lower-case form is 32 more
pub data Case (o : ℕ) : Type 0 where
  letter : 65 ≤ o → o ≤ 90 → lower_of o ≡ o + 32 → Case o
  other : (65 ≤ o → o ≤ 90 → ⊥) → lower_of o ≡ o → Case o

pub lower_case : (o : ℕ) → Case o
lower_case o = go (leb 65 o) (leb o 90) refl refl
  where
    go : (a b : Bool) → leb 65 o ≡ a → leb o 90 ≡ b → Case o
    go true true ea eb =
        letter (leb-true 65 o ea) (leb-true o 90 eb) (lower_letter o (leb-true 65 o ea) (leb-true o 90 eb))
    go true false ea eb = other (λ a b. omega (arith, leb-false o 90 eb)) (lower_large o (leb-false o 90 eb))
    go false b ea eb = other (λ a b. omega (arith, leb-false 65 o ea)) (lower_small o (leb-false 65 o ea))

pub lower_not_upper : (o : ℕ) → 65 ≤ lower_of o → lower_of o ≤ 90 → ⊥
lower_not_upper o a b = go (lower_case o)
  where
    go : Case o → ⊥
    go (letter p q e) = omega (arith, a, b, e)
    go (other f e) = f (omega (arith, a, e)) (omega (arith, b, e))

pub lower_kept : (o : ℕ) → (65 ≤ o → o ≤ 90 → ⊥) → lower_of o ≡ o
lower_kept o f = go (lower_case o)
  where
    go : Case o → lower_of o ≡ o
    go (letter p q e) = absurd (f p q)
    go (other g e) = e

pub lower_idempotent : (o : ℕ) → lower_of (lower_of o) ≡ lower_of o
lower_idempotent o = lower_kept (lower_of o) (lower_not_upper o)

pub lower_octet : (o : ℕ) → o < 256 → lower_of o < 256
lower_octet o h = go (lower_case o)
  where
    go : Case o → lower_of o < 256
    go (letter p q e) = omega (arith, e)
    go (other g e) = omega (arith, e)

-- ---- octets

-- no octet is one of 65 to 90
abbrev pub NoUpper : List ℕ → Type 0
NoUpper [] = Unit {0}
NoUpper (o ∷ s) = (65 ≤ o → o ≤ 90 → ⊥) × NoUpper s

pub folded_length : (s : List ℕ) → length (folded s) ≡ length s
folded_length s = length-map s lower_of

pub folded_idempotent : (s : List ℕ) → folded (folded s) ≡ folded s
folded_idempotent [] = refl
folded_idempotent (o ∷ s) = rw (lower_idempotent o, folded_idempotent s)

pub folded_no_upper : (s : List ℕ) → NoUpper (folded s)
folded_no_upper [] = tt
folded_no_upper (o ∷ s) = (lower_not_upper o, folded_no_upper s)

pub no_upper_folded : (s : List ℕ) → NoUpper s → folded s ≡ s
no_upper_folded [] h = refl
no_upper_folded (o ∷ s) h = rw (lower_kept o h.0, no_upper_folded s h.1)

pub folded_octets : (s : List ℕ) → Octets s → Octets (folded s)
folded_octets [] h = tt
folded_octets (o ∷ s) h = (lower_octet o h.0, folded_octets s h.1)

-- ---- labels and names

pub folded_sizes : (ls : List (List ℕ)) → Sizes ls → Sizes (map folded ls)
folded_sizes [] v = tt
folded_sizes (l ∷ ls) v = (rw (folded_length l) v.0, rw (folded_length l) v.1, folded_sizes ls v.2)

-- a label's length octet is 1 to 63, and stays
pub folded_wire : (ls : List (List ℕ)) → Sizes ls → folded (wire ls) ≡ wire (map folded ls)
folded_wire [] v = refl
folded_wire (l ∷ ls) v =
    rw (lower_small (length l) (omega (arith, v.1)), map_append lower_of l (wire ls), folded_wire ls v.2, folded_length l)

pub folded_label_lengths : (ls : List (List ℕ)) → map length (map folded ls) ≡ map length ls
folded_label_lengths [] = refl
folded_label_lengths (l ∷ ls) = rw (folded_length l, folded_label_lengths ls)

-- the length octets of a name, its last one too, are below 65
abbrev pub AllBelow65 : List ℕ → Type 0
AllBelow65 [] = Unit {0}
AllBelow65 (o ∷ s) = (o < 65) × AllBelow65 s

pub length_octets_below_65 : (ls : List (List ℕ)) → Sizes ls → AllBelow65 (map length ls ++ 0 ∷ [])
length_octets_below_65 [] v = (omega arith, tt)
length_octets_below_65 (l ∷ ls) v = (omega (arith, v.1), length_octets_below_65 ls v.2)

module _ (s : List ℕ) (e : reading_of s ≡ Ok tt) where
  pub folded_is_wire : folded s ≡ wire (map folded (labels_of s))
  folded_is_wire = ap folded (sym (wire_labels s e)) ∙ folded_wire (labels_of s) (label_sizes s e)

  pub folded_labels_lem : labels_of (folded s) ≡ map folded (labels_of s)
  folded_labels_lem = ap labels_of folded_is_wire ∙ labels_wire (map folded (labels_of s)) (folded_sizes (labels_of s) (label_sizes s e))

  pub folded_whole : reading_of (folded s) ≡ Ok tt
  folded_whole =
      ap reading_of folded_is_wire
      ∙ labels_read (map folded (labels_of s)) 0 (folded_sizes (labels_of s) (label_sizes s e))
      (rw (← folded_is_wire, folded_length s) (omega (arith, whole_fits s e)))
