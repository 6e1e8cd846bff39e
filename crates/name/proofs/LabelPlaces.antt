-- The places of a name's labels: at the i-th one stands the i-th label, and from there on that label and those behind it (`start_stands`).
-- So they are as many as the labels, 127 at most (`starts_length`, `starts_most`), each is an octet (`starts_octets`), and the labels that
-- they cut are the name's (`starts_cut`). Each but the first is where the label before it ends (`start_next`).
use mathlib.Core.Path.{◌≡◌, refl, sym, ap, ◌∙◌}
use mathlib.Core.List.{List, [], ◌∷◌, ◌++◌, map}
use Prim.Native.Nat.{ℕ, zero, suc, ◌+◌, ◌-◌, ◌≤◌, ◌<◌}
use native.Mathlib.Nat.{add-sub_cancel_left}
use native.Mathlib.Numerals.{add-one}
use native.Mathlib.Omega.{arith}
use borrow.Author.Tests.{ne_eqb}
use lib.ListN.{length, take, drop, get_or, length-append, length-drop, length-map, get_or-map, drop_of_length-le}
use lib.Seq.{drop-append_seam, drop-append-add, drop-cons, ext_get_or}
use Rattle.space.specs.Octets.{Octets}
use Rattle.std.specs.Prelude.{Ok}
use Rattle.name.specs.Wire.{reading_of}
use Rattle.name.specs.Labels.{wire, Sizes, labels_of}
use Rattle.name.specs.Starts.{starts_from, starts_of, label_at}
use Rattle.name.specs.Private.Standing.{Standing}
use Rattle.name.proofs.Whole.{whole_fits}
use Rattle.name.proofs.Labels.{labels_wire, wire_labels, label_sizes, at_most_127_labels}
use Rattle.name.proofs.LabelSteps.{Here, here}
use Rattle.name.proofs.MarkSteps.{starts_skip}

-- ---- the places of labels whose wire octets begin at the place p

unfoldable places_from : ℕ → List (List ℕ) → List ℕ
places_from p [] = []
places_from p (l ∷ ls) = p ∷ places_from (p + 1 + length l) ls

starts_wire : (ls : List (List ℕ)) (p : ℕ) → Sizes ls → starts_from p 0 (wire ls) ≡ places_from p ls
unfolding starts_from places_from
starts_wire [] p v = refl
starts_wire (l ∷ ls) p v =
    rw (ne_eqb (length l) 0 (λ z. omega (arith, v.0)))
    (ap (λ (t : List ℕ). p ∷ t)
    (starts_skip (l ++ wire ls) (p + 1) (length l) (simp length-append (omega arith))
    ∙ rw drop-append_seam (starts_wire ls (p + 1 + length l) v.2)))

places_length : (ls : List (List ℕ)) (p : ℕ) → length (places_from p ls) ≡ length ls
unfolding places_from
places_length [] p = refl
places_length (l ∷ ls) p = ap suc (places_length ls (p + 1 + length l))

places_octets : (ls : List (List ℕ)) (p : ℕ) → p + length (wire ls) ≤ 255 → Octets (places_from p ls)
unfolding places_from
places_octets [] p h = tt
places_octets (l ∷ ls) p h =
    (omega (arith, length-append l (wire ls)), places_octets ls (p + 1 + length l) (omega (arith, length-append l (wire ls))))

places_shift : (ls : List (List ℕ)) (p i : ℕ) → i < length ls → get_or (places_from p ls) i 0 ≡ p + get_or (places_from 0 ls) i 0
unfolding places_from
places_shift [] p i h = absurd (omega arith)
places_shift (l ∷ ls) p zero h = omega arith
places_shift (l ∷ ls) p (suc i) h =
    omega (arith, places_shift ls (p + 1 + length l) i (omega arith), places_shift ls (0 + 1 + length l) i (omega arith))

places_drop : (ls : List (List ℕ)) (i : ℕ) → i < length ls → drop (get_or (places_from 0 ls) i 0) (wire ls) ≡ wire (drop i ls)
unfolding places_from
places_drop [] i h = absurd (omega arith)
places_drop (l ∷ ls) zero h = refl
places_drop (l ∷ ls) (suc i) h =
    ap (λ (n : ℕ). drop n (wire (l ∷ ls))) at
    ∙ drop-append-add l (wire ls) (get_or (places_from 0 ls) i 0)
    ∙ places_drop ls i (omega arith)
  where
    at : get_or (places_from (0 + 1 + length l) ls) i 0 ≡ suc (length l + get_or (places_from 0 ls) i 0)
    at = omega (arith, places_shift ls (0 + 1 + length l) i (omega arith))

pub sizes_drop : (ls : List (List ℕ)) (i : ℕ) → Sizes ls → Sizes (drop i ls)
sizes_drop ls zero v = v
sizes_drop [] (suc i) v = tt
sizes_drop (l ∷ ls) (suc i) v = sizes_drop ls i v.2

-- ---- the places of a name's labels

-- at the place p stands the label l
pub record LabelHere (s : List ℕ) (p : ℕ) (l : List ℕ) : Type 0 where
  pub octet : get_or s p 0 ≡ length l
  pub within : p + 1 + get_or s p 0 ≤ length s
  pub is : label_at s p ≡ l

module _ (s : List ℕ) (whole : reading_of s ≡ Ok tt) where
  starts_places : starts_of s ≡ places_from 0 (labels_of s)
  starts_places = ap starts_of (sym (wire_labels s whole)) ∙ starts_wire (labels_of s) 0 (label_sizes s whole)

  pub starts_length : length (starts_of s) ≡ length (labels_of s)
  starts_length = ap length starts_places ∙ places_length (labels_of s) 0

  pub starts_most : length (starts_of s) ≤ 127
  starts_most = omega (arith, starts_length, at_most_127_labels s whole)

  pub starts_octets : Octets (starts_of s)
  starts_octets = rw starts_places (places_octets (labels_of s) 0 (omega (arith, ap length (wire_labels s whole), whole_fits s whole)))

  module _ (i : ℕ) (some : i < length (labels_of s)) where
    pub start_stands : drop (get_or (starts_of s) i 0) s ≡ wire (drop i (labels_of s))
    start_stands =
        rw starts_places
        (ap (λ (t : List ℕ). drop (get_or (places_from 0 (labels_of s)) i 0) t) (sym (wire_labels s whole))
        ∙ places_drop (labels_of s) i some)

    pub start_label : (d : List ℕ) → LabelHere s (get_or (starts_of s) i 0) (get_or (labels_of s) i d)
    start_label d =
        let ls : List (List ℕ) = labels_of s in
        let p : ℕ = get_or (starts_of s) i 0 in
        let v : Sizes (drop i ls) = sizes_drop ls i (label_sizes s whole) in
        let el : labels_of (drop p s) ≡ drop i ls = ap labels_of start_stands ∙ labels_wire (drop i ls) v in
        let stand : Standing s p 1 =
        record { sizes = rw el v; back = rw el (sym start_stands); count = rw (el, length-drop i ls) (omega arith) } in
        let found : Here s p 1 = here s p 1 stand (omega arith) in
        let e : get_or ls i d ∷ drop (suc i) ls ≡ found.label ∷ found.rest = sym (drop-cons ls i d some) ∙ sym el ∙ found.is in
        let same : found.label ≡ get_or ls i d = cc e in
        record {
          octet = found.octet ∙ ap length same;
          within = omega (arith, found.octet, found.within);
          is = rw found.octet (found.octets ∙ same);
        }

    -- the label ends where what stands behind it begins
    start_size : get_or (starts_of s) i 0 + length (wire (drop i (labels_of s))) ≡ length s
    start_size =
        omega (arith, ap length start_stands, length-drop (get_or (starts_of s) i 0) s, (start_label []).within)

    start_ends : get_or (starts_of s) i 0 + 1 + get_or s (get_or (starts_of s) i 0) 0 + length (wire (drop (i + 1) (labels_of s)))
        ≡ length s
    start_ends =
        let ls : List (List ℕ) = labels_of s in
        let e : drop i ls ≡ get_or ls i [] ∷ drop (i + 1) ls = rw (add-one i) (drop-cons ls i [] some) in
        omega (
          arith,
          start_size,
          ap (λ (x : List (List ℕ)). length (wire x)) e,
          length-append (get_or ls i []) (wire (drop (i + 1) ls)),
          (start_label []).octet,
        )

    -- behind the last label stands the root's octet
    pub start_last : i + 1 ≡ length (labels_of s) → get_or (starts_of s) i 0 + 1 + get_or s (get_or (starts_of s) i 0) 0 + 1 ≡ length s
    start_last e =
        let h : length (labels_of s) ≤ i + 1 = omega arith in
        omega (arith, start_ends, ap (λ (x : List (List ℕ)). length (wire x)) (drop_of_length-le (labels_of s) h))

  -- the first label begins the name, and each other where the one before it ends
  pub start_first : 0 < length (labels_of s) → get_or (starts_of s) 0 0 ≡ 0
  start_first some = omega (arith, start_size 0 some, ap length (wire_labels s whole))

  pub start_next : (i : ℕ) → i + 1 < length (labels_of s)
      → get_or (starts_of s) (i + 1) 0 ≡ get_or (starts_of s) i 0 + 1 + get_or s (get_or (starts_of s) i 0) 0
  start_next i more = omega (arith, start_ends i (omega arith), start_size (i + 1) more)

  -- the labels that the places cut are the name's
  pub starts_cut : map (label_at s) (starts_of s) ≡ labels_of s
  starts_cut =
      ext_get_or (label_at s 0) (map (label_at s) (starts_of s)) (labels_of s) (simp length-map starts_length)
      (λ i h. get_or-map (label_at s) (starts_of s) i 0
      ∙ (start_label i (omega (arith, starts_length, length-map (starts_of s) (label_at s))) (label_at s 0)).is)

-- the part of s from p + 1 on that a program takes is the label
pub label_part : (s : List ℕ) (p : ℕ) → take (p + 1 + get_or s p 0 - (p + 1)) (drop (p + 1) s) ≡ label_at s p
label_part s p = rw (add-sub_cancel_left (p + 1) (get_or s p 0))
