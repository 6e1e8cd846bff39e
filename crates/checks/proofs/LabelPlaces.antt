-- Where the labels of a name begin: the label of index i begins at the place that the octets of those before it lead to (`place_of`). From
-- there on the octets are those of the labels from i on (`place_stands`, `place_labels`); the places rise with the index (`place_mono`),
-- and there are no others (`boundary_place`).
use mathlib.Core.Path.{◌≡◌, sym, ap, ◌∙◌}
use mathlib.Core.List.{List, [], ◌∷◌, ◌++◌}
use Prim.Native.Nat.{ℕ, zero, suc, ◌+◌, ◌-◌, ◌≤◌, ◌<◌}
use native.Mathlib.Omega.{arith}
use lib.ListN.{length, take, drop, get_or, length-drop, take-append-drop}
use Rattle.std.specs.Prelude.{Ok}
use Rattle.name.specs.Wire.{reading_of}
use Rattle.name.specs.Labels.{wire, Sizes, labels_of}
use Rattle.name.specs.Private.Standing.{Standing}
use Rattle.name.proofs.Labels.{labels_wire, wire_labels, label_sizes}
use Rattle.name.proofs.LabelSteps.{Here, here, counted, at_root, not_root}
use Rattle.zone.specs.Zone.{size}
use Rattle.zone.proofs.Bridge.{wire_append}
use Rattle.checks.specs.Private.Boundary.{before, Boundary}
use Rattle.checks.proofs.Lists.{sizes_parts, drop_size}

abbrev pub place_of : List (List ℕ) → ℕ → ℕ
place_of ls i = size (take i ls)

pub place_mono : (ls : List (List ℕ)) (i j : ℕ) → i ≤ j → place_of ls i ≤ place_of ls j
place_mono ls zero j h = omega arith
place_mono ls (suc i) zero h = absurd (omega arith)
place_mono [] (suc i) (suc j) h = omega arith
place_mono (l ∷ ls) (suc i) (suc j) h = omega (arith, place_mono ls i j (omega arith))

place_next : (ls : List (List ℕ)) (i : ℕ) (l : List ℕ) (ms : List (List ℕ)) → drop i ls ≡ l ∷ ms
    → place_of ls (suc i) ≡ place_of ls i + 1 + length l
place_next ls zero l ms e = rw e (omega arith)
place_next [] (suc i) l ms e = absurd (omega (arith, ap length e))
place_next (m ∷ ls) (suc i) l ms e = omega (arith, place_next ls i l ms e)

module _ (s : List ℕ) (whole : reading_of s ≡ Ok tt) where
  place_drop : (i : ℕ) → drop (place_of (labels_of s) i) s ≡ wire (drop i (labels_of s))
  place_drop i =
      let ls : List (List ℕ) = labels_of s in
      let e : s ≡ wire (take i ls ++ drop i ls) = sym (ap wire (take-append-drop i ls) ∙ wire_labels s whole) in
      ap (drop (place_of ls i)) e ∙ drop_size (take i ls) (drop i ls)

  rest_sizes : (i : ℕ) → Sizes (drop i (labels_of s))
  rest_sizes i =
      (sizes_parts (take i (labels_of s)) (drop i (labels_of s)) (rw (take-append-drop i (labels_of s)) (label_sizes s whole))).1

  pub place_labels : (i : ℕ) → labels_of (drop (place_of (labels_of s) i) s) ≡ drop i (labels_of s)
  place_labels i = ap labels_of (place_drop i) ∙ labels_wire (drop i (labels_of s)) (rest_sizes i)

  pub place_stands : (i : ℕ) → Standing s (place_of (labels_of s) i) 0
  place_stands i =
      record {
        sizes = rw (place_labels i) (rest_sizes i);
        back = ap wire (place_labels i) ∙ sym (place_drop i);
        count = omega arith;
      }

  module _ (i p : ℕ) (at : place_of (labels_of s) i ≡ p) where
    left : length (labels_of (drop p s)) ≡ length (labels_of s) - i
    left = rw (← at) (ap length (place_labels i) ∙ length-drop i (labels_of s))

    there : Standing s p 0
    there = rw (← at) (place_stands i)

    -- the octet 0 stands behind the last label
    pub place_end : get_or s p 0 ≡ 0 → length (labels_of s) ≤ i
    place_end z = omega (arith, at_root there z, left)

    -- any other is the length octet of a label
    pub place_on : (get_or s p 0 ≡ 0 → ⊥) → (i < length (labels_of s)) × (place_of (labels_of s) (suc i) ≡ p + 1 + get_or s p 0)
    place_on f =
        let n : 1 ≤ length (labels_of (drop p s)) = not_root there f in
        let h : Here s p 1 = here s p 1 (counted there 1 n) (omega arith) in
        let e : drop i (labels_of s) ≡ h.label ∷ h.rest = sym (place_labels i) ∙ rw at h.is in
        (omega (arith, n, left), omega (arith, place_next (labels_of s) i h.label h.rest e, at, h.octet))

-- the labels before a place lead to it
module _ {s : List ℕ} {cut : ℕ} (b : Boundary s cut) where
  pub boundary_place : place_of (labels_of s) (before s cut) ≡ cut
  boundary_place =
      let ls : List (List ℕ) = labels_of s in
      let m : ℕ = before s cut in
      omega (
        arith,
        ap length (ap wire (take-append-drop m ls) ∙ wire_labels s b.whole),
        wire_append (take m ls) (drop m ls),
        ap length b.tail,
        length-drop cut s,
        b.within,
      )
