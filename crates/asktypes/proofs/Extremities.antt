-- The first and the last type of a bitmap: octets that are 0 are passed at the front (`Leading`), and the last octet ends the last window
-- (`last_found`).
use mathlib.Core.Path.{◌≡◌, sym, ap, ◌∙◌}
use mathlib.Core.List.{List, [], ◌∷◌, ◌++◌, append-nil}
use Prim.Native.Nat.{ℕ, suc, ◌+◌, ◌-◌, ◌*◌, ◌≤◌, ◌<◌}
use native.Mathlib.Omega.{arith}
use lib.Count.{count_leading_zeros, count_trailing_zeros}
use lib.ListN.{length, drop, get_or, length-drop, take-append-drop, length-append}
use lib.Seq.{drop-drop, get_or-drop, length-take-le}
use Rattle.types.specs.Window.{bit_types, octet_types}
use Rattle.name.specs.Answer.{answer}
use Rattle.types.specs.ReadTypes.{read_types}
use Rattle.types.specs.Answers.{of_types, smallest, largest}
use Rattle.types.proofs.Sets.{Last, last_behind}
use Rattle.types.proofs.Bits.{bits_none}
use Rattle.types.proofs.Octets.{Ends, ends_first, Known, ends_known}
use Rattle.types.proofs.Windows.{some_octets}
use Rattle.types.proofs.Zeros.{bits_first, bits_last}
use Rattle.fromtypes.specs.Private.Checked.{types_of, IsRead, LastWindow}
use Rattle.fromtypes.proofs.Walks.{known_drop}
use Rattle.fromtypes.proofs.Rests.{octets_at, rest_start, rest_window, rest_end}

-- ---- the first

-- the smallest type is the first one of the octets from the place i on, of which the first bit is the type `first`
pub record Leading (bitmap : List ℕ) (first i : ℕ) : Type 0 where
  pub octets : List ℕ
  pub rest : List ℕ
  pub more : List ℕ
  pub here : drop i bitmap ≡ octets ++ rest
  pub ends : Ends octets
  pub small : first + 8 * length octets ≤ 65536
  pub is : smallest (types_of bitmap) ≡ smallest (octet_types first octets ++ more)

pub leading_start : (bitmap : List ℕ) → IsRead bitmap → 1 ≤ length bitmap → Leading bitmap (256 * get_or bitmap 0 0) 2
leading_start bitmap e h =
    let w = rest_window (rest_start bitmap e) h in
    let n : ℕ = get_or bitmap 1 0 in
    record {
      octets = octets_at bitmap 0;
      rest = drop n (drop 2 bitmap);
      more = w.more;
      here = sym (take-append-drop n (drop 2 bitmap));
      ends = w.ends;
      small = omega (arith, w.number, w.most, length-take-le n (drop 2 bitmap) (omega (arith, w.within, length-drop 2 bitmap)));
      is = ap smallest w.is;
    }

head_octet : (s : List ℕ) (i o : ℕ) (t : List ℕ) → drop i s ≡ o ∷ t → get_or s i 0 ≡ o
head_octet s i o t e =
    let z : i + 0 ≡ i = omega arith in
    rw z at (sym (get_or-drop i s 0 0)) ∙ ap (λ (l : List ℕ). get_or l 0 0) e

module _ {bitmap : List ℕ} {first i : ℕ} (l : Leading bitmap first i) where
  pub leading_within : i < length bitmap
  leading_within =
      omega (arith, ap length l.here, length-drop i bitmap, length-append l.octets l.rest, some_octets l.octets l.ends)

  pub leading_small : first + 8 ≤ 65536
  leading_small = omega (arith, l.small, some_octets l.octets l.ends)

  pub leading_zero : get_or bitmap i 0 ≡ 0 → Leading bitmap (first + 8) (i + 1)
  unfolding octet_types
  leading_zero z = go l.octets l.here l.ends l.small l.is
    where
      go : (s : List ℕ) → drop i bitmap ≡ s ++ l.rest → Ends s → first + 8 * length s ≤ 65536
          → smallest (types_of bitmap) ≡ smallest (octet_types first s ++ l.more) → Leading bitmap (first + 8) (i + 1)
      go [] e d k is = absurd d
      go (o ∷ []) e d k is = absurd (omega (arith, head_octet bitmap i o l.rest e))
      go (o ∷ q ∷ s) e d k is =
          let n : o ≡ 0 = sym (head_octet bitmap i o _ e) ∙ z in
          record {
            octets = q ∷ s;
            rest = l.rest;
            more = l.more;
            here = sym (drop-drop 1 i bitmap) ∙ ap (drop 1) e;
            ends = d.1;
            small = omega arith;
            is = rw (n, bits_none first 8) at is;
          }

  pub leading_found : (z : ℕ) → (get_or bitmap i 0 ≡ 0 → ⊥) → z ≡ count_leading_zeros 8 (get_or bitmap i 0)
      → smallest (types_of bitmap) ≡ 1 + (first + z)
  unfolding octet_types
  leading_found z h e = go l.octets l.here l.ends l.is
    where
      go : (s : List ℕ) → drop i bitmap ≡ s ++ l.rest → Ends s → smallest (types_of bitmap) ≡ smallest (octet_types first s ++ l.more)
          → smallest (types_of bitmap) ≡ 1 + (first + z)
      go [] f d is = absurd d
      go (o ∷ s) f d is =
          let n : get_or bitmap i 0 ≡ o = head_octet bitmap i o _ f in
          let k = bits_first first o z (omega arith) (ends_first o s d) (rw n at e) in
          is ∙ rw k.2

-- ---- the last

octets_last : (first : ℕ) (s : List ℕ) (z : ℕ) → Ends s → z ≡ count_trailing_zeros 8 (get_or s (length s - 1) 0)
    → (last : ℕ) × Last (octet_types first s) last × (last + z + 1 ≡ first + 8 * length s)
unfolding octet_types
octets_last first [] z h e = absurd h
octets_last first (o ∷ []) z h e =
    let k = bits_last first 8 o z h.0 (omega arith) e in
    (k.0, rw append-nil k.1, k.2)
octets_last first (o ∷ p ∷ s) z h e =
    let i : length (o ∷ p ∷ s) - 1 ≡ suc (length (p ∷ s) - 1) = omega arith in
    let k = octets_last (first + 8) (p ∷ s) z h.1 (rw i at e) in
    (k.0, last_behind (bit_types first 8 o) {last = k.0} k.1, omega (arith, k.2))

largest_last : {ts : List ℕ} {last : ℕ} → Last ts last → largest ts ≡ 1 + last
largest_last l = rw (l.is, l.ends)

-- the type after that of the lowest bit of the last octet
abbrev pub end_of : List ℕ → ℕ → ℕ
end_of bitmap last = 256 * get_or bitmap last 0 + 8 * (length bitmap - last - 2)

-- the trailing zeros of the last octet lead to the largest type
pub last_found : (bitmap : List ℕ) (last z : ℕ) → LastWindow bitmap last → Known bitmap
    → z ≡ count_trailing_zeros 8 (get_or bitmap (length bitmap - 1) 0)
    → largest (types_of bitmap) ≡ 1 + (end_of bitmap last - 1 - z)
last_found bitmap last z w known e =
    let s : List ℕ = drop (last + 2) bitmap in
    let size = length-drop (last + 2) bitmap in
    let i : last + 2 + (length s - 1) ≡ length bitmap - 1 = omega (arith, w.within) in
    let o : get_or s (length s - 1) 0 ≡ get_or bitmap (length bitmap - 1) 0 = get_or-drop (last + 2) bitmap (length s - 1) 0 ∙ rw i in
    let d : Ends s = ends_known s (known_drop (last + 2) bitmap known) (omega (arith, w.within)) (rw o w.high) in
    let k = octets_last (256 * get_or bitmap last 0) s z d (rw o e) in
    go k.0 k.1 k.2
  where
    go : (x : ℕ) → Last (octet_types (256 * get_or bitmap last 0) (drop (last + 2) bitmap)) x
        → x + z + 1 ≡ 256 * get_or bitmap last 0 + 8 * length (drop (last + 2) bitmap)
        → largest (types_of bitmap) ≡ 1 + (end_of bitmap last - 1 - z)
    go x l k =
        let size = length-drop (last + 2) bitmap in
        let m : x ≡ end_of bitmap last - 1 - z = omega arith in
        ap largest w.is ∙ largest_last (last_behind w.earlier l) ∙ rw m

-- ---- a bitmap without types

pub asked_none : {A : Type 0} (f : List ℕ → A) (bitmap : List ℕ) → IsRead bitmap → length bitmap ≤ 0
    → of_types f (read_types bitmap) ≡ answer (f [])
asked_none f bitmap e h = ap (of_types f) e ∙ rw (rest_end (rest_start bitmap e) h)
