-- Letter case does not count: octets are read as their folded ones are, and a folded name stands in the order and in a zone where the name
-- does.
use mathlib.Core.Path.{◌≡◌, refl, ap, ◌∙◌}
use mathlib.Core.List.{List, [], ◌∷◌, map}
use Prim.Native.Nat.{ℕ, zero, suc, ◌+◌}
use native.Mathlib.Omega.{arith}
use borrow.Author.Tests.{lt-ltb, ne_eqb}
use lib.ListN.{length, length-map}
use Rattle.std.specs.Prelude.{Ok}
use Rattle.name.specs.Wire.{ended, at_length, read_from, reading_of}
use Rattle.name.specs.Labels.{labels_of}
use Rattle.name.proofs.Folding.{Case, letter, other, lower_case, folded_idempotent, folded_labels_lem}
use Rattle.space.specs.Fold.{folded, lower_of}
use Rattle.order.specs.Order.{folded_labels}
use Rattle.checks.specs.Under.{is_under}

-- ---- reading

ended_folded : (p : ℕ) (s : List ℕ) → ended p (folded s) ≡ ended p s
ended_folded p [] = refl
ended_folded p (x ∷ s) = refl

read_folded : (p k : ℕ) (s : List ℕ) → read_from p k (folded s) ≡ read_from p k s
unfolding read_from
read_folded p k [] = refl
read_folded p zero (o ∷ s) = go (lower_case o) (read_folded (p + 1) o s)
  where
    go : Case o → read_from (p + 1) o (folded s) ≡ read_from (p + 1) o s
        → at_length p (lower_of o) (folded s) (read_from (p + 1) (lower_of o) (folded s)) ≡ at_length p o s (read_from (p + 1) o s)
    go (letter a b e) ih =
        rw (
          e,
          ne_eqb (o + 32) 0 (λ z. omega arith),
          lt-ltb 63 (o + 32) (omega arith),
          ne_eqb o 0 (λ z. omega arith),
          lt-ltb 63 o (omega arith),
        )
    go (other f e) ih = rw (e, ih, ended_folded (p + 1) s)
read_folded p (suc k) (o ∷ s) = read_folded (p + 1) k s

pub reading_folded : (s : List ℕ) → reading_of (folded s) ≡ reading_of s
reading_folded s = read_folded 0 0 s

-- ---- labels

labels_again : (ls : List (List ℕ)) → map folded (map folded ls) ≡ map folded ls
labels_again [] = refl
labels_again (l ∷ ls) = rw (folded_idempotent l, labels_again ls)

module _ (s : List ℕ) (e : reading_of s ≡ Ok tt) where
  pub labels_folded : folded_labels (folded s) ≡ folded_labels s
  labels_folded = ap (map folded) (folded_labels_lem s e) ∙ labels_again (labels_of s)

  count_folded : length (labels_of (folded s)) ≡ length (labels_of s)
  count_folded = ap length (folded_labels_lem s e) ∙ length-map (labels_of s) folded

  pub under_folded : (name : List ℕ) → is_under (folded s) name ≡ is_under s name
  under_folded name = rw (labels_folded, count_folded)
