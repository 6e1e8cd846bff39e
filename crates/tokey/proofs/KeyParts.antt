-- The parts of a key: a label's key is its octets' codes and 00, and the key of a name ends with its first label's (`key_first`).
use mathlib.Core.Path.{◌≡◌, refl, sym, ap, ◌∙◌}
use mathlib.Core.List.{List, [], ◌∷◌, ◌++◌, reverse, reverse-cons}
use Prim.Native.Nat.{ℕ, zero, suc, ◌+◌, ◌≤◌, ◌<◌}
use native.Mathlib.Omega.{arith}
use lib.ListN.{length, drop, get_or}
use Rattle.facts.proofs.Lists.{drop_next}
use Rattle.space.specs.Fold.{lower_of}
use Rattle.name.proofs.Folding.{Case, letter, other, lower_case, lower_small}
use Rattle.key.specs.Key.{coded, label_key, right_key, key_of}
use Rattle.tokey.specs.Private.Codes.{codes}
use Rattle.key.specs.Small.{small_in}
use Rattle.key.proofs.KeyLength.{coded_length, label_key_length}

-- ---- an octet

pub coded_append : (o : ℕ) (j k : List ℕ) → coded o j ++ k ≡ coded o (j ++ k)
coded_append zero j k = refl
coded_append (suc zero) j k = refl
coded_append (suc (suc o)) j k = refl

coded_small : (o : ℕ) (k : List ℕ) → o < 2 → coded o k ≡ 1 ∷ (o + 1) ∷ k
coded_small zero k h = refl
coded_small (suc zero) k h = refl
coded_small (suc (suc o)) k h = absurd (omega arith)

coded_large : (o : ℕ) (k : List ℕ) → 2 ≤ o → coded o k ≡ o ∷ k
coded_large zero k h = absurd (omega arith)
coded_large (suc zero) k h = absurd (omega arith)
coded_large (suc (suc o)) k h = refl

-- an octet is folded and then coded
pub lower_coded_small : (o : ℕ) (k : List ℕ) → o < 2 → coded (lower_of o) k ≡ 1 ∷ (o + 1) ∷ k
lower_coded_small o k h = ap (λ (x : ℕ). coded x k) (lower_small o (omega arith)) ∙ coded_small o k h

pub lower_coded_large : (o : ℕ) (k : List ℕ) → 2 ≤ o → coded (lower_of o) k ≡ lower_of o ∷ k
lower_coded_large o k h = coded_large (lower_of o) k (go (lower_case o))
  where
    go : Case o → 2 ≤ lower_of o
    go (letter p q e) = omega (arith, e)
    go (other f e) = omega (arith, e)

-- ---- octets

pub codes_step : (l : List ℕ) (i : ℕ) → i < length l → codes (drop i l) ≡ coded (get_or l i 0) [] ++ codes (drop (i + 1) l)
codes_step l i h = rw (drop_next l i 0) (sym (coded_append (get_or l i 0) [] (codes (drop (i + 1) l))))

-- each octet takes one at least
pub codes_before : (l : List ℕ) (i : ℕ) → i ≤ length l → i + length (codes (drop i l)) ≤ length (codes l)
codes_before l zero h = omega arith
codes_before [] (suc i) h = absurd (omega arith)
codes_before (o ∷ l) (suc i) h = omega (arith, codes_before l i (omega arith), coded_length o (codes l))

pub codes_plain : (l : List ℕ) → small_in l ≡ 0 → codes l ≡ l
codes_plain [] h = refl
codes_plain (zero ∷ l) h = absurd (omega arith)
codes_plain (suc zero ∷ l) h = absurd (omega arith)
codes_plain (suc (suc o) ∷ l) h = ap (λ (k : List ℕ). suc (suc o) ∷ k) (codes_plain l (omega arith))

-- ---- labels

pub label_key_codes : (l k : List ℕ) → label_key l k ≡ codes l ++ 0 ∷ k
unfolding label_key
label_key_codes [] k = refl
label_key_codes (o ∷ l) k = rw (label_key_codes l k) (sym (coded_append o (codes l) (0 ∷ k)))

pub label_key_some : (l k : List ℕ) → 1 ≤ length (label_key l k)
label_key_some l k = omega (arith, label_key_length l k)

label_key_append : (l j k : List ℕ) → label_key l j ++ k ≡ label_key l (j ++ k)
unfolding label_key
label_key_append [] j k = refl
label_key_append (o ∷ l) j k = coded_append o (label_key l j) k ∙ ap (coded o) (label_key_append l j k)

right_key_append : (ls ms : List (List ℕ)) → right_key (ls ++ ms) ≡ right_key ls ++ right_key ms
unfolding right_key
right_key_append [] ms = refl
right_key_append (l ∷ ls) ms = ap (label_key l) (right_key_append ls ms) ∙ sym (label_key_append l (right_key ls) (right_key ms))

pub key_first : (l : List ℕ) (ls : List (List ℕ)) → key_of (l ∷ ls) ≡ key_of ls ++ label_key l []
unfolding right_key
key_first l ls = ap right_key (reverse-cons l ls) ∙ right_key_append (reverse ls) (l ∷ [])
