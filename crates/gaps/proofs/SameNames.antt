-- Names by their labels, as a denial compares them: the same name, one with as many labels (`same_count`), the children of an encloser
-- (`child_more`), and what is under a wildcard (`wildcard_short`).
use mathlib.Core.Path.{◌≡◌, refl, sym, ap, ◌∙◌}
use mathlib.Core.List.{List, [], ◌∷◌, ◌++◌, map}
use mathlib.Core.Bool.{true}
use Prim.Native.Nat.{ℕ, ◌+◌, ◌≤◌}
use native.Mathlib.Omega.{arith}
use lib.ListN.{length, length-append, length-map}
use Rattle.space.specs.Fold.{folded}
use Rattle.space.proofs.SameBlocks.{same_octets_equal, same_octets_refl}
use Rattle.std.specs.Prelude.{Ok}
use Rattle.name.specs.Wire.{reading_of}
use Rattle.name.specs.Labels.{wire, labels_of}
use Rattle.name.proofs.Labels.{labels_wire, label_sizes}
use Rattle.name.proofs.Folding.{folded_labels_lem, folded_is_wire}
use Rattle.order.specs.Order.{folded_labels}
use Rattle.checks.specs.Under.{is_under, more, above}
use Rattle.checks.proofs.UnderLabels.{under_labels, labels_under}
use Rattle.encloser.specs.Wildcard.{wildcard_name}
use Rattle.encloser.proofs.Ancestors.{as_many_octets, octets_labels}
use Rattle.encloser.proofs.Wildcards.{wildcard_octets}
use Rattle.gaps.specs.Denial.{is_same}

-- names are the same, letter case aside, exactly where their folded labels are

module _ (first second : List ℕ) (w : reading_of first ≡ Ok tt) (v : reading_of second ≡ Ok tt) where
  pub same_labels_lem : is_same first second ≡ true → folded_labels first ≡ folded_labels second
  same_labels_lem t =
      sym (folded_labels_lem first w) ∙ ap labels_of (same_octets_equal (folded first) (folded second) t) ∙ folded_labels_lem second v

  pub labels_same : folded_labels first ≡ folded_labels second → is_same first second ≡ true
  labels_same e =
      let f : folded first ≡ folded second = folded_is_wire first w ∙ ap wire e ∙ sym (folded_is_wire second v) in
      rw f (same_octets_refl (folded second))

-- a name at or under one with as many labels has the same
pub same_count : (first second : List ℕ) → length (labels_of first) ≡ length (labels_of second) → is_under first second ≡ true
    → folded_labels second ≡ folded_labels first
same_count first second e t = let z : more first second ≡ 0 = omega arith in rw z at (under_labels first second t)

-- what is at or under a name is at or under the same name
pub under_same : (first second u : List ℕ) → folded_labels first ≡ folded_labels second → is_under first u ≡ true → is_under second u ≡ true
under_same first second u e t =
    labels_under second u (above first u) (under_labels first u t ∙ ap (λ (ls : List (List ℕ)). above first u ++ ls) e)

-- what is under a wildcard is as long as it at least
pub wildcard_short : (encloser u : List ℕ) → reading_of encloser ≡ Ok tt → reading_of u ≡ Ok tt → is_under (wildcard_name encloser) u ≡ true
    → length (wildcard_name encloser) ≤ length u
wildcard_short encloser u w v t =
    let ls : List (List ℕ) = folded_labels (wildcard_name encloser) in
    let labels : labels_of (wildcard_name encloser) ≡ (42 ∷ []) ∷ labels_of encloser =
    labels_wire ((42 ∷ []) ∷ labels_of encloser) (omega arith, omega arith, label_sizes encloser w) in
    let e : folded_labels u ≡ above (wildcard_name encloser) u ++ ls = under_labels (wildcard_name encloser) u t in
    omega (
      arith,
      as_many_octets (folded_labels u) [] (folded_labels u) (above (wildcard_name encloser) u) ls refl e
          (omega (arith, ap length e, length-append (above (wildcard_name encloser) u) ls)),
      ap (λ (ms : List (List ℕ)). length (wire (map folded ms))) labels,
      octets_labels u v,
      octets_labels encloser w,
      ap length (wildcard_octets encloser w),
    )

-- a child of what is at or under the apex has more labels than the apex
pub child_more : (apex encloser name : List ℕ) → is_under apex encloser ≡ true → length (labels_of name) ≡ length (labels_of encloser) + 1
    → 1 ≤ more apex name
child_more apex encloser name t e =
    let f = under_labels apex encloser t in
    omega (
      arith,
      ap length f,
      length-append (above apex encloser) (folded_labels apex),
      length-map (labels_of encloser) folded,
      length-map (labels_of apex) folded,
    )
