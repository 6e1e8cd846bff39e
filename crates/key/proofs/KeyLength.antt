-- A key's length is the name's length, less 1, plus the number of its label octets that are 0 or 1 (`key_length`); it is 504 at most, and
-- that of four labels full of octets 0 is 504.
use mathlib.Core.Path.{◌≡◌, refl, sym, ap, ◌∙◌}
use mathlib.Core.List.{List, [], ◌∷◌, reverse_aux, map}
use Prim.Native.Nat.{ℕ, zero, suc, ◌+◌, ◌*◌, ◌≤◌}
use native.Mathlib.Omega.{arith}
use lib.ListN.{length, replicate, length-append}
use Rattle.std.specs.Prelude.{Ok}
use Rattle.name.specs.Wire.{reading_of}
use Rattle.space.specs.Octets.{Octets}
use Rattle.name.specs.WellFormed.{WellFormed}
use Rattle.name.specs.Labels.{wire, Sizes, IsName, labels_of}
use Rattle.space.specs.Fold.{lower_of, folded}
use Rattle.name.proofs.Whole.{whole_fits}
use Rattle.name.proofs.Labels.{wire_whole, labels_wire, wire_labels, label_sizes, wire_octets}
use Rattle.name.proofs.Folding.{Case, letter, other, lower_case, folded_length, folded_wire}
use Rattle.order.specs.Order.{folded_labels}
use Rattle.key.specs.Key.{coded, label_key, right_key, key_of}
use Rattle.key.specs.Small.{small_octet, small_in, small}

-- ---- the length

pub coded_length : (o : ℕ) (k : List ℕ) → length (coded o k) ≡ 1 + small_octet o + length k
coded_length zero k = omega arith
coded_length (suc zero) k = omega arith
coded_length (suc (suc o)) k = omega arith

pub label_key_length : (l k : List ℕ) → length (label_key l k) ≡ length l + small_in l + (1 + length k)
unfolding label_key
label_key_length [] k = omega arith
label_key_length (o ∷ l) k = omega (arith, coded_length o (label_key l k), label_key_length l k)

key_cons : (l : List ℕ) (ls : List (List ℕ)) → length (right_key (l ∷ ls)) ≡ length l + small_in l + (1 + length (right_key ls))
unfolding right_key
key_cons l ls = label_key_length l (right_key ls)

right_key_length : (ls ms : List (List ℕ))
    → length (right_key (reverse_aux ls ms)) + 1 ≡ length (wire ls) + small ls + length (right_key ms)
right_key_length [] ms = omega arith
right_key_length (l ∷ ls) ms = omega (arith, right_key_length ls (l ∷ ms), key_cons l ms, length-append l (wire ls))

pub key_length : (ls : List (List ℕ)) → length (key_of ls) + 1 ≡ length (wire ls) + small ls
unfolding right_key
key_length ls = omega (arith, right_key_length ls [])

-- ---- folding keeps it

pub large_octet : (o : ℕ) → 2 ≤ o → small_octet o ≡ 0
large_octet zero h = absurd (omega arith)
large_octet (suc zero) h = absurd (omega arith)
large_octet (suc (suc o)) h = refl

small_lower : (o : ℕ) → small_octet (lower_of o) ≡ small_octet o
small_lower o = go (lower_case o)
  where
    go : Case o → small_octet (lower_of o) ≡ small_octet o
    go (letter p q e) = large_octet (lower_of o) (omega (arith, e)) ∙ sym (large_octet o (omega arith))
    go (other f e) = ap small_octet e

pub small_folded_label : (l : List ℕ) → small_in (folded l) ≡ small_in l
small_folded_label [] = refl
small_folded_label (o ∷ l) = omega (arith, small_lower o, small_folded_label l)

pub small_folded : (ls : List (List ℕ)) → small (map folded ls) ≡ small ls
small_folded [] = refl
small_folded (l ∷ ls) = omega (arith, small_folded_label l, small_folded ls)

pub labels_key_length : (ls : List (List ℕ)) → Sizes ls → length (key_of (map folded ls)) + 1 ≡ length (wire ls) + small ls
labels_key_length ls v =
    omega (arith, key_length (map folded ls), small_folded ls, ap length (folded_wire ls v), folded_length (wire ls))

-- of a well formed name, as document 01 states it
pub name_key_length : (s : List ℕ) → reading_of s ≡ Ok tt
    → length (key_of (folded_labels s)) + 1 ≡ length s + small (labels_of s)
name_key_length s e =
    omega (arith, labels_key_length (labels_of s) (label_sizes s e), ap length (wire_labels s e))

-- ---- the largest

-- how many label octets there are
abbrev octets_in : List (List ℕ) → ℕ
octets_in [] = 0
octets_in (l ∷ ls) = length l + octets_in ls

pub small_in_label : (l : List ℕ) → small_in l ≤ length l
small_in_label [] = omega arith
small_in_label (zero ∷ l) = omega (arith, small_in_label l)
small_in_label (suc zero ∷ l) = omega (arith, small_in_label l)
small_in_label (suc (suc o) ∷ l) = omega (arith, small_in_label l)

small_in_lem : (ls : List (List ℕ)) → small ls ≤ octets_in ls
small_in_lem [] = omega arith
small_in_lem (l ∷ ls) = omega (arith, small_in_label l, small_in_lem ls)

octets_wire : (ls : List (List ℕ)) → length (wire ls) ≡ octets_in ls + length ls + 1
octets_wire [] = omega arith
octets_wire (l ∷ ls) = omega (arith, length-append l (wire ls), octets_wire ls)

octets_labels : (ls : List (List ℕ)) → Sizes ls → octets_in ls ≤ 63 * length ls
octets_labels [] v = omega arith
octets_labels (l ∷ ls) v = omega (arith, v.1, octets_labels ls v.2)

pub key_at_most_504 : (s : List ℕ) → reading_of s ≡ Ok tt → length (key_of (folded_labels s)) ≤ 504
key_at_most_504 s e =
    omega (
      arith,
      name_key_length s e,
      small_in_lem (labels_of s),
      octets_wire (labels_of s),
      octets_labels (labels_of s) (label_sizes s e),
      ap length (wire_labels s e),
      whole_fits s e,
    )

-- ---- and it is reached

-- four labels of 63, 63, 63 and 61 octets 0
abbrev pub largest : List (List ℕ)
largest = replicate 63 0 ∷ replicate 63 0 ∷ replicate 63 0 ∷ replicate 61 0 ∷ []

zeros_octets : (n : ℕ) → Octets (replicate n 0)
zeros_octets zero = tt
zeros_octets (suc n) = (omega arith, zeros_octets n)

largest_name : IsName largest
largest_name =
    record {
      sizes = (omega arith, omega arith, (omega arith, omega arith, (omega arith, omega arith, (omega arith, omega arith, tt))));
      octets = (zeros_octets 63, (zeros_octets 63, (zeros_octets 63, (zeros_octets 61, tt))));
      fits = omega arith;
    }

pub largest_formed : WellFormed (wire largest)
largest_formed =
    record {
      octets = wire_octets largest largest_name.sizes largest_name.octets;
      whole = wire_whole largest largest_name;
    }

pub largest_key : length (key_of (folded_labels (wire largest))) ≡ 504
largest_key =
    let v = largest_name.sizes in
    let n : length (wire largest) ≡ 255 = refl in
    let m : small largest ≡ 250 = refl in
    omega (arith, ap (λ (ls : List (List ℕ)). length (key_of (map folded ls))) (labels_wire largest v), labels_key_length largest v)
