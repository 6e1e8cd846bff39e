-- At or under the apex by octets is at or under it by labels (`under_by_octets`, `octets_of_under`): a label begins where so many octets
-- are left as the apex has, and those, folded, are the apex's, which is then whole (`apex_by_octets`).
use mathlib.Core.Path.{◌≡◌, refl, sym, ap, ◌∙◌}
use mathlib.Core.List.{List, [], ◌∷◌, ◌++◌, map}
use mathlib.Core.Bool.{true}
use Prim.Native.Nat.{ℕ, ◌+◌, ◌≤◌}
use native.Mathlib.Omega.{arith}
use borrow.Author.Tests.{leb-true}
use lib.ListN.{length, take, drop, length-drop, take-append-drop}
use lib.Seq.{take-append_seam, drop-append_seam}
use lib.Dec.{leb}
use Rattle.std.specs.Prelude.{Ok}
use Rattle.name.specs.Wire.{reading_of}
use Rattle.name.specs.Labels.{wire, Sizes, labels_of}
use Rattle.space.specs.Fold.{lower_of, folded}
use Rattle.name.proofs.Labels.{labels_read, labels_wire}
use Rattle.name.proofs.LabelSteps.{inside}
use Rattle.name.proofs.Folding.{Case, letter, other, lower_case, folded_length, folded_sizes, folded_is_wire}
use Rattle.order.specs.Order.{folded_labels}
use Rattle.checks.specs.Under.{same_labels, more, is_under}
use Rattle.checks.specs.Private.Boundary.{lower, Boundary}
use Rattle.checks.specs.Private.Climbs.{Climbs}
use Rattle.facts.proofs.Lists.{map_take, map_drop, map_append}
use Rattle.facts.proofs.Booleans.{both_true}
use Rattle.checks.proofs.Sameness.{same_labels_equal}
use Rattle.checks.proofs.UnderLabels.{labels_under}
use Rattle.checks.proofs.Climbing.{folded_from, boundary_climbs}
use Rattle.checks.proofs.LabelPlaces.{place_of, place_labels, place_stands}
use Rattle.checks.proofs.LastAbove.{place_boundary}

-- ---- octets that are wire octets once they are folded are so themselves

small_kept : (o n : ℕ) → lower_of o ≡ n → n ≤ 63 → o ≡ n
small_kept o n e h = go (lower_case o)
  where
    go : Case o → o ≡ n
    go (letter a b c) = absurd (omega (arith, c, e))
    go (other f c) = sym c ∙ e

pub record Unfolded (t : List ℕ) (ls : List (List ℕ)) : Type 0 where
  pub labels : List (List ℕ)
  pub back : t ≡ wire labels
  pub same : map folded labels ≡ ls

folded_front : (l r t : List ℕ) → folded t ≡ l ++ r → folded (take (length l) t) ≡ l
folded_front l r t e = map_take lower_of (length l) t ∙ rw e (take-append_seam l r)

folded_rest : (l r t : List ℕ) → folded t ≡ l ++ r → folded (drop (length l) t) ≡ r
folded_rest l r t e = map_drop lower_of (length l) t ∙ rw e (drop-append_seam l r)

first_octet : (x y : ℕ) (s t : List ℕ) → x ∷ s ≡ y ∷ t → (x ≡ y) × (s ≡ t)
first_octet x y s t e = ((cc), (cc))

label_back : (x : ℕ) (t m : List ℕ) (ms : List (List ℕ)) → x ≡ length m → t ≡ m ++ wire ms → x ∷ t ≡ wire (m ∷ ms)
label_back x t m ms e g = rw (e, g)

unfolded : (ls : List (List ℕ)) (t : List ℕ) → Sizes ls → folded t ≡ wire ls → Unfolded t ls
unfolded [] [] v e = absurd (omega (arith, ap length e))
unfolded (l ∷ ls) [] v e = absurd (omega (arith, ap length e))
unfolded [] (x ∷ t) v e =
    let p = first_octet (lower_of x) 0 (folded t) [] e in
    record { labels = []; back = rw (small_kept x 0 p.0 (omega arith), nil t p.1); same = refl }
  where
    nil : (u : List ℕ) → folded u ≡ [] → u ≡ []
    nil [] g = refl
    nil (y ∷ u) g = absurd (omega (arith, ap length g))
unfolded (l ∷ ls) (x ∷ t) v e =
    let p = first_octet (lower_of x) (length l) (folded t) (l ++ wire ls) e in
    let f : folded (take (length l) t) ≡ l = folded_front l (wire ls) t p.1 in
    let c : Unfolded (drop (length l) t) ls = unfolded ls (drop (length l) t) v.2 (folded_rest l (wire ls) t p.1) in
    let n : length (take (length l) t) ≡ length l = sym (folded_length (take (length l) t)) ∙ ap length f in
    record {
      labels = take (length l) t ∷ c.labels;
      back =
          label_back x t (take (length l) t) c.labels (small_kept x (length l) p.0 v.1 ∙ sym n)
          (sym (take-append-drop (length l) t) ∙ ap (λ (r : List ℕ). take (length l) t ++ r) c.back);
      same = rw (f, c.same);
    }

unfolded_sizes : (ls : List (List ℕ)) → Sizes (map folded ls) → Sizes ls
unfolded_sizes [] v = tt
unfolded_sizes (l ∷ ls) v = (rw (folded_length l) at v.0, rw (folded_length l) at v.1, unfolded_sizes ls v.2)

-- ---- a name at or under an apex by labels, and by octets

module _ (apex name : List ℕ) (ea : reading_of apex ≡ Ok tt) (en : reading_of name ≡ Ok tt) (u : is_under apex name ≡ true) where
  under_tests : (length (labels_of apex) ≤ length (labels_of name)) × (drop (more apex name) (folded_labels name) ≡ folded_labels apex)
  under_tests =
      let t = both_true (leb (length (labels_of apex)) (length (labels_of name)))
      (same_labels (drop (more apex name) (folded_labels name)) (folded_labels apex)) u in (
        leb-true (length (labels_of apex)) (length (labels_of name)) t.0,
        same_labels_equal (drop (more apex name) (folded_labels name)) (folded_labels apex) t.1,
      )

  under_octets : folded (drop (place_of (labels_of name) (more apex name)) name) ≡ folded apex
  under_octets =
      let k : ℕ = more apex name in
      folded_from (place_stands name en k)
      ∙ ap wire (ap (map folded) (place_labels name en k) ∙ map_drop folded k (labels_of name) ∙ under_tests.1)
      ∙ sym (folded_is_wire apex ea)

  pub under_place : place_of (labels_of name) (more apex name) + length apex ≡ length name
  under_place =
      let p : ℕ = place_of (labels_of name) (more apex name) in
      omega (
        arith,
        sym (folded_length (drop p name)) ∙ ap length under_octets ∙ folded_length apex,
        length-drop p name,
        inside (place_stands name en (more apex name)),
      )

  module _ (cut : ℕ) (e : cut + length apex ≡ length name) where
    pub under_cut : place_of (labels_of name) (more apex name) ≡ cut
    under_cut = omega (arith, under_place)

    pub octets_of_under : Boundary name cut × (folded (drop cut name) ≡ folded apex)
    octets_of_under =
        (rw under_cut at (place_boundary name en (more apex name) (omega arith)), rw under_cut at under_octets)

module _ (apex name : List ℕ) (cut : ℕ) (b : Boundary name cut) (e : folded (drop cut name) ≡ folded apex) where
  climbs : Climbs name 0 cut (length name)
  climbs = boundary_climbs b (length name) (omega arith)

  own : Unfolded apex (map folded (labels_of (drop cut name)))
  own =
      unfolded (map folded (labels_of (drop cut name))) apex
      (folded_sizes (labels_of (drop cut name)) climbs.ends.sizes) (sym e ∙ folded_from climbs.ends)

  own_sizes : Sizes own.labels
  own_sizes = unfolded_sizes own.labels (rw own.same (folded_sizes (labels_of (drop cut name)) climbs.ends.sizes))

  pub apex_labels : folded_labels apex ≡ lower name cut
  apex_labels = ap (λ (t : List ℕ). map folded (labels_of t)) own.back ∙ ap (map folded) (labels_wire own.labels own_sizes) ∙ own.same

  -- so the apex needs no reading of its own
  pub apex_by_octets : length apex ≤ 255 → reading_of apex ≡ Ok tt
  apex_by_octets h = ap reading_of own.back ∙ labels_read own.labels 0 own_sizes (omega (arith, ap length own.back))

  pub under_by_octets : is_under apex name ≡ true
  under_by_octets =
      labels_under apex name (map folded climbs.labels)
      (ap (map folded) climbs.joins ∙ map_append folded climbs.labels (labels_of (drop cut name))
      ∙ ap (λ (ls : List (List ℕ)). map folded climbs.labels ++ ls) (sym apex_labels))
