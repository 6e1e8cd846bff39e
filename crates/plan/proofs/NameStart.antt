-- A name cut at a boundary: the labels from there on (`lower_wire`), and, where labels stand before it, the first of them with what
-- follows it (`name_start`).
use mathlib.Core.Path.{◌≡◌, refl, sym, ap, ◌∙◌}
use mathlib.Core.List.{List, [], ◌∷◌, ◌++◌, map, map-append}
use Prim.Native.Nat.{ℕ, zero, suc, ◌+◌, ◌-◌, ◌≤◌, ◌<◌}
use native.Mathlib.Numerals.{add-one}
use native.Mathlib.Omega.{arith}
use lib.ListN.{length, take, drop, get_or, length-append, length-drop, take-append-drop, get_or-append}
use lib.ListN.{length-map, get_or-map}
use lib.Seq.{take-append-le, drop-append_seam}
use Rattle.name.specs.Labels.{wire, Sizes, labels_of}
use Rattle.space.specs.Fold.{lower_of, folded}
use Rattle.name.proofs.Labels.{wire_some, labels_wire, wire_labels, label_sizes}
use Rattle.name.proofs.Folding.{folded_length, folded_wire, folded_sizes, folded_is_wire}
use Rattle.zone.specs.Zone.{size}
use Rattle.zone.proofs.Bridge.{wire_append}
use Rattle.checks.specs.Private.Boundary.{before, upper, lower, Boundary}
use Rattle.facts.proofs.Lists.{map_take}

pub folded_drop_length : (s : List ℕ) (from : ℕ) → length (folded (drop from s)) ≡ length s - from
folded_drop_length s from = simp (length-map, length-drop)

sizes_drop : (k : ℕ) (ls : List (List ℕ)) → Sizes ls → Sizes (drop k ls)
sizes_drop zero ls v = v
sizes_drop (suc k) [] v = tt
sizes_drop (suc k) (l ∷ ls) v = sizes_drop k ls v.2

sizes_take : (k : ℕ) (ls : List (List ℕ)) → Sizes ls → Sizes (take k ls)
sizes_take zero ls v = tt
sizes_take (suc k) [] v = tt
sizes_take (suc k) (l ∷ ls) v = (v.0, v.1, sizes_take k ls v.2)

-- ---- the labels from the boundary on

module _ {s : List ℕ} {at : ℕ} (b : Boundary s at) where
  labels_sizes : Sizes (labels_of s)
  labels_sizes = label_sizes s b.whole

  lower_labels : labels_of (drop at s) ≡ drop (before s at) (labels_of s)
  lower_labels =
      ap labels_of (sym b.tail) ∙ labels_wire (drop (before s at) (labels_of s)) (sizes_drop (before s at) (labels_of s) labels_sizes)

  pub lower_wire : wire (lower s at) ≡ folded (drop at s)
  lower_wire =
      ap (λ (ls : List (List ℕ)). wire (map folded ls)) lower_labels
      ∙ sym (folded_wire (drop (before s at) (labels_of s)) (sizes_drop (before s at) (labels_of s) labels_sizes))
      ∙ ap folded b.tail

  pub lower_length : length (wire (lower s at)) ≡ length s - at
  lower_length = ap length lower_wire ∙ folded_drop_length s at

  pub upper_sizes : Sizes (upper s at)
  upper_sizes = folded_sizes (take (before s at) (labels_of s)) (sizes_take (before s at) (labels_of s) labels_sizes)

  pub upper_size : size (upper s at) + (length s - at) ≡ length s
  upper_size =
      let joined : upper s at ++ lower s at ≡ map folded (labels_of s) =
      ap (λ (ls : List (List ℕ)). upper s at ++ map folded ls) lower_labels
      ∙ sym (map-append folded (take (before s at) (labels_of s)) (drop (before s at) (labels_of s)))
      ∙ ap (map folded) (take-append-drop (before s at) (labels_of s)) in
      omega (
        arith,
        wire_append (upper s at) (lower s at),
        lower_length,
        ap length (ap wire joined ∙ sym (folded_is_wire s b.whole)),
        folded_length s,
      )

-- at the front of the name no label stands before
pub upper_none : (s : List ℕ) → upper s 0 ≡ []
upper_none s = let e : length (labels_of s) - length (labels_of s) ≡ 0 = omega arith in rw e

-- ---- the first label

-- what the wire octets of a label l and of what follows it hold, folded
module _ (l t : List ℕ) where
  first_kept : take (length (folded l) - 1) (folded l) ≡ folded (take (length (folded l) - 1) (l ++ t))
  first_kept =
      sym (map_take lower_of (length (folded l) - 1) l)
      ∙ ap folded (sym (take-append-le (length (folded l) - 1) l t (omega (arith, folded_length l))))

  first_last : (n : ℕ) → length (folded l) ≡ suc n
      → get_or (folded l) (length (folded l) - 1) 0 ≡ lower_of (get_or (length l ∷ l ++ t) (length (folded l)) 0)
  first_last n e =
      let z : suc n - 1 ≡ n = omega arith in
      rw (e, z) (get_or-map lower_of l n 0 ∙ ap lower_of (sym (get_or-append l t 0 n (omega (arith, folded_length l)))))

pub record NameStart (s : List ℕ) (at : ℕ) : Type 0 where
  -- the first label, folded, and those between it and the boundary
  pub label : List ℕ
  pub between : List (List ℕ)
  pub is : upper s at ≡ label ∷ between
  pub octet : get_or s 0 0 ≡ length label
  pub some : 1 ≤ length label
  pub small : length label ≤ 63
  pub within : length label + 1 < length s
  pub kept : take (length label - 1) label ≡ folded (take (length label - 1) (drop 1 s))
  pub last : get_or label (length label - 1) 0 ≡ lower_of (get_or s (length label) 0)
  pub rest : wire (between ++ lower s at) ≡ folded (drop (length label + 1) s)

pub name_start : {s : List ℕ} {at : ℕ} → Boundary s at → 1 ≤ at → NameStart s at
name_start {s} {at} b some = go (labels_of s) (before s at) refl refl
  where
    go : (ls : List (List ℕ)) (n : ℕ) → labels_of s ≡ ls → before s at ≡ n → NameStart s at
    go ls zero el en =
        absurd (omega (arith, length-drop at s, b.within, ap length (rw en at b.tail), ap length (wire_labels s b.whole)))
    go [] (suc n) el en = absurd (omega (arith, b.within, ap length (ap wire (sym el) ∙ wire_labels s b.whole)))
    go (l ∷ ls) (suc n) el en =
        let w : length l ∷ l ++ wire ls ≡ s = ap wire (sym el) ∙ wire_labels s b.whole in
        let v : Sizes (l ∷ ls) = rw el at (label_sizes s b.whole) in
        let size : length (folded l) ≡ length l = folded_length l in
        let later : labels_of (drop at s) ≡ drop n ls = lower_labels b ∙ rw (en, el) in
        let after : drop (length (folded l) + 1) s ≡ wire ls = rw (← w, size, add-one (length l)) (drop-append_seam l (wire ls)) in
        record {
          label = folded l;
          between = map folded (take n ls);
          is = rw (en, el);
          octet = rw (← w) (sym size);
          some = rw size v.0;
          small = rw size v.1;
          within = omega (arith, size, ap length w, length-append l (wire ls), wire_some ls);
          kept = rw (← w) (first_kept l (wire ls));
          last = rw (← w) (first_last l (wire ls) (length (folded l) - 1) (omega (arith, size, v.0)));
          rest = rw (after, later, ← map-append folded (take n ls) (drop n ls), take-append-drop n ls) (sym (folded_wire ls v.2));
        }
