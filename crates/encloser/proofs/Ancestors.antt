-- Ancestors of a name by their labels: what two names share is an ancestor of both (`Common`), nothing with more labels is (`common_most`),
-- and of two ancestors of one name the one with more labels has more octets (`more_octets`). The octets of an ancestor are the end of the
-- name (`ancestor_end`), and it is a name itself (`ancestor_whole`).
use mathlib.Core.Path.{◌≡◌, sym, ap, ◌∙◌}
use mathlib.Core.List.{List, [], ◌∷◌, ◌++◌, map, reverse, reverse-append, reverse-reverse}
use Prim.Native.Nat.{ℕ, zero, suc, ◌+◌, ◌-◌, ◌≤◌, ◌<◌}
use native.Mathlib.Omega.{arith}
use lib.ListN.{length, take, drop, length-append, length-map, length-reverse, length-take, take-append-drop}
use lib.Seq.{drop-append_seam, drop-append-add}
use Rattle.facts.proofs.Lists.{map_drop}
use Rattle.std.specs.Prelude.{Ok}
use Rattle.name.specs.Wire.{reading_of}
use Rattle.name.specs.Labels.{wire, Sizes, labels_of}
use Rattle.name.proofs.Whole.{whole_fits}
use Rattle.name.proofs.Labels.{labels_read, labels_wire, wire_labels, label_sizes}
use Rattle.name.proofs.Folding.{folded_length, folded_wire}
use Rattle.space.specs.Fold.{folded}
use Rattle.zone.specs.Zone.{size}
use Rattle.zone.proofs.Bridge.{wire_append}
use Rattle.order.specs.Order.{folded_labels}
use Rattle.order.proofs.Alignment.{shared_behind}
use Rattle.order.proofs.Comparison.{shared_labels}
use Rattle.order.proofs.SharedLabels.{shared_labels_lem}
use Rattle.checks.proofs.Lists.{sizes_parts, drop_size}
use Rattle.encloser.specs.Encloser.{ancestor, end}

-- ---- labels that two lists share from the right

-- both lists end in k labels that are the same
pub record Common (ls ms : List (List ℕ)) (k : ℕ) : Type 0 where
  pub first : List (List ℕ)
  pub second : List (List ℕ)
  pub labels : List (List ℕ)
  pub first_is : ls ≡ first ++ labels
  pub second_is : ms ≡ second ++ labels
  pub count : length labels ≡ k

halves : (ls : List (List ℕ)) (k : ℕ) → ls ≡ reverse (drop k (reverse ls)) ++ reverse (take k (reverse ls))
halves ls k =
    sym (reverse-reverse ls)
    ∙ ap reverse (sym (take-append-drop k (reverse ls)))
    ∙ reverse-append (take k (reverse ls)) (drop k (reverse ls))

pub common : (ls ms : List (List ℕ)) → Common ls ms (shared_labels ls ms)
common ls ms =
    let k : ℕ = shared_labels ls ms in
    let h = shared_labels_lem (reverse ls) (reverse ms) in
    record {
      first = reverse (drop k (reverse ls));
      second = reverse (drop k (reverse ms));
      labels = reverse (take k (reverse ls));
      first_is = halves ls k;
      second_is = halves ms k ∙ ap (λ (c : List (List ℕ)). reverse (drop k (reverse ms)) ++ reverse c) (sym h.same);
      count = length-reverse (take k (reverse ls)) ∙ omega (arith, length-take k (reverse ls), h.first);
    }

pub common_most : (ls ms us vs cs : List (List ℕ)) → ls ≡ us ++ cs → ms ≡ vs ++ cs → length cs ≤ shared_labels ls ms
common_most ls ms us vs cs e f =
    rw (e, f, reverse-append us cs, reverse-append vs cs, shared_behind (reverse cs) (reverse us) (reverse vs))
    (omega (arith, length-reverse cs))

-- ---- of two endings of one list, the one with more labels has more octets

pub ending : (ls us cs vs ds : List (List ℕ)) → ls ≡ us ++ cs → ls ≡ vs ++ ds → length ds ≤ length cs → drop (length cs - length ds) cs ≡ ds
ending ls us cs vs ds e f h =
    let n : length us + (length cs - length ds) ≡ length vs =
    omega (arith, ap length e, ap length f, length-append us cs, length-append vs ds) in
    sym (drop-append-add us cs (length cs - length ds))
    ∙ ap (λ (i : ℕ). drop i (us ++ cs)) n
    ∙ ap (drop (length vs)) (sym e ∙ f)
    ∙ drop-append_seam vs ds

fewer_octets : (cs : List (List ℕ)) (i : ℕ) → length (wire (drop i cs)) + (length cs - length (drop i cs)) ≤ length (wire cs)
fewer_octets cs zero = omega arith
fewer_octets [] (suc i) = omega arith
fewer_octets (c ∷ cs) (suc i) =
    omega (arith, fewer_octets cs i, length-append c (wire cs))

module _ (ls us cs vs ds : List (List ℕ)) (e : ls ≡ us ++ cs) (f : ls ≡ vs ++ ds) where
  pub as_many_octets : length ds ≤ length cs → length (wire ds) ≤ length (wire cs)
  as_many_octets h = rw (ending ls us cs vs ds e f h) at (fewer_octets_only (length cs - length ds))
    where
      fewer_octets_only : (i : ℕ) → length (wire (drop i cs)) ≤ length (wire cs)
      fewer_octets_only i = omega (arith, fewer_octets cs i)

  pub more_octets : length ds < length cs → length (wire ds) < length (wire cs)
  more_octets h =
      let g : length (wire ds) + (length cs - length ds) ≤ length (wire cs) =
      rw (ending ls us cs vs ds e f (omega arith)) at (fewer_octets cs (length cs - length ds)) in
      omega arith

-- ---- an ancestor of a name

module _ (name : List ℕ) (whole : reading_of name ≡ Ok tt) where
  pub octets_labels : length name ≡ length (wire (folded_labels name))
  octets_labels =
      ap length (sym (wire_labels name whole))
      ∙ sym (folded_length (wire (labels_of name)))
      ∙ ap length (folded_wire (labels_of name) (label_sizes name whole))

  module _ (n : ℕ) where
    -- the labels that it has not, and those that it has
    abbrev passed : List (List ℕ)
    passed = take (length (labels_of name) - n) (labels_of name)

    abbrev kept : List (List ℕ)
    kept = drop (length (labels_of name) - n) (labels_of name)

    joined : passed ++ kept ≡ labels_of name
    joined = take-append-drop (length (labels_of name) - n) (labels_of name)

    kept_sizes : Sizes kept
    kept_sizes = (sizes_parts passed kept (rw joined (label_sizes name whole))).1

    lengths : length name ≡ size passed + length (ancestor name n)
    lengths =
        ap length (sym (wire_labels name whole))
        ∙ ap (λ (ls : List (List ℕ)). length (wire ls)) (sym joined)
        ∙ wire_append passed kept

    pub ancestor_end : end (length (ancestor name n)) name ≡ ancestor name n
    ancestor_end =
        let i : length name - length (ancestor name n) ≡ size passed = omega (arith, lengths) in
        ap (λ (k : ℕ). drop k name) i
        ∙ ap (drop (size passed)) (sym (ap wire joined ∙ wire_labels name whole))
        ∙ drop_size passed kept

    pub ancestor_fits : length (ancestor name n) ≤ length name
    ancestor_fits = omega (arith, lengths)

    pub ancestor_whole : reading_of (ancestor name n) ≡ Ok tt
    ancestor_whole = labels_read kept 0 kept_sizes (omega (arith, lengths, whole_fits name whole))

    pub ancestor_all : length (labels_of name) ≤ n → ancestor name n ≡ name
    ancestor_all h =
        let i : length (labels_of name) - n ≡ 0 = omega arith in
        ap (λ (k : ℕ). wire (drop k (labels_of name))) i ∙ wire_labels name whole

    -- the labels that it has are these
    module _ (us cs : List (List ℕ)) (e : folded_labels name ≡ us ++ cs) (c : length cs ≡ n) where
      pub ancestor_labels : folded_labels (ancestor name n) ≡ cs
      ancestor_labels =
          let i : length (labels_of name) - n ≡ length us =
          omega (arith, length-map (labels_of name) folded, ap length e, length-append us cs) in
          ap (map folded) (labels_wire kept kept_sizes)
          ∙ map_drop folded (length (labels_of name) - n) (labels_of name)
          ∙ ap (λ (k : ℕ). drop k (folded_labels name)) i
          ∙ ap (drop (length us)) e
          ∙ drop-append_seam us cs

pub ancestor_octets : (name : List ℕ) → reading_of name ≡ Ok tt → (n : ℕ) (us cs : List (List ℕ)) → folded_labels name ≡ us ++ cs
    → length cs ≡ n → length (ancestor name n) ≡ length (wire cs)
ancestor_octets name whole n us cs e c =
    octets_labels (ancestor name n) (ancestor_whole name whole n)
    ∙ ap (λ (ls : List (List ℕ)). length (wire ls)) (ancestor_labels name whole n us cs e c)
