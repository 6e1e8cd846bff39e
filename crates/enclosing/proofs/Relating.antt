-- How one name stands to another, from the places where they come together (`Forks`): the labels from there on are those that they share,
-- and the labels before them decide the order, or one of the names has none (`equal`, `before`, `after`, and `by_label_before` and
-- `by_label_after`).
use mathlib.Core.Path.{◌≡◌, refl, sym, ap, ◌∙◌}
use mathlib.Core.List.{List, [], ◌∷◌, ◌++◌, map, reverse, reverse-append, reverse-cons, append-nil, append_assoc}
use Prim.Native.Nat.{ℕ, ◌+◌, ◌-◌, ◌≤◌, ◌<◌}
use native.Mathlib.Omega.{arith}
use lib.ListN.{length, take, drop, length-drop, length-map, length-reverse}
use Rattle.facts.proofs.Lists.{map_drop, map_append}
use Rattle.name.specs.Wire.{Reading}
use Rattle.std.specs.Prelude.{Ok, Err}
use Rattle.std.specs.declared.cmp.Ordering.TheVariants.{Less, Equal, Greater}
use Rattle.name.specs.Wire.{reading_of}
use Rattle.name.specs.Labels.{wire, labels_of}
use Rattle.name.specs.Private.Standing.{Standing}
use Rattle.name.proofs.Labels.{wire_unique}
use Rattle.name.proofs.LabelSteps.{Here, here, counted, not_root}
use Rattle.name.proofs.Folding.{folded_sizes}
use Rattle.space.specs.Fold.{folded, lower_of}
use Rattle.std.specs.declared.cmp.Ordering.{Ordering}
use Rattle.order.specs.Order.{folded_labels}
use Rattle.order.specs.Compare.{order_of, right_order, right_shared}
use Rattle.order.proofs.Alignment.{order_behind, shared_behind}
use Rattle.order.proofs.Comparison.{order_same, right_refl}
use Rattle.checks.specs.Private.Boundary.{lower, Boundary}
use Rattle.checks.specs.Private.Climbs.{past, Climbs}
use Rattle.checks.proofs.Climbing.{folded_from, boundary_climbs}
use Rattle.enclosing.specs.declared.forks.Fork.{Fork}
use Rattle.enclosing.specs.declared.forks.Relation.TheVariants.{Before, Equal, After, Unrelated}
use Rattle.encloser.specs.Encloser.{shared, shared_ancestor}
use Rattle.enclosing.specs.Private.Forks.{Stands, Meets, Forks}
use Rattle.enclosing.specs.Private.Relations.{related, relation_of}
use Rattle.enclosing.proofs.Advancing.{boundary_stands, root_last}

-- ---- lists of labels that end alike

-- the labels cs, the label l before them, and the others
turned : (us cs : List (List ℕ)) (l : List ℕ) → reverse (us ++ l ∷ cs) ≡ reverse cs ++ l ∷ reverse us
turned us cs l =
    reverse-append us (l ∷ cs)
    ∙ ap (λ (x : List (List ℕ)). x ++ reverse us) (reverse-cons l cs)
    ∙ append_assoc (reverse cs) (l ∷ []) (reverse us)

-- so the order and the number of shared labels are those of what stands before cs
pub record Split (ls ms cs us vs : List (List ℕ)) : Type 0 where
  pub order : right_order (reverse ls) (reverse ms) ≡ right_order us vs
  pub count : right_shared (reverse ls) (reverse ms) ≡ length cs + right_shared us vs

split_at : (ls ms cs us vs : List (List ℕ)) → reverse ls ≡ reverse cs ++ us → reverse ms ≡ reverse cs ++ vs → Split ls ms cs us vs
split_at ls ms cs us vs e f =
    record {
      order = rw (e, f) (order_behind (reverse cs) us vs);
      count = rw (e, f) (shared_behind (reverse cs) us vs ∙ ap (λ (n : ℕ). n + right_shared us vs) (length-reverse cs));
    }

whole_turned : (cs : List (List ℕ)) → reverse cs ≡ reverse cs ++ []
whole_turned cs = sym (append-nil (reverse cs))

-- ---- the labels of a name from a place on

module _ {s : List ℕ} {p : ℕ} (b : Boundary s p) where
  -- the folded labels before the place
  abbrev front : List (List ℕ)
  front = map folded (boundary_climbs b (length s) (omega arith)).labels

  pub labels_from : folded_labels s ≡ front ++ lower s p
  labels_from =
      let w : Climbs s 0 p (length s) = boundary_climbs b (length s) (omega arith) in
      ap (map folded) w.joins ∙ map_append folded w.labels (labels_of (drop p s))

  octets_from : drop p (folded s) ≡ wire (lower s p)
  octets_from = sym (map_drop lower_of p s) ∙ folded_from (boundary_stands b)

  -- the label that ends at the place q
  module _ (q : ℕ) (e : past s p ≡ q) (h : q < length s) where
    found : Here s p 1
    found =
        let st : Standing s p 0 = boundary_stands b in
        here s p 1 (counted st 1 (not_root st (λ z. omega (arith, root_last b z)))) (omega arith)

    pub label_from : lower s p ≡ folded (take (q - (p + 1)) (drop (p + 1) s)) ∷ lower s q
    label_from =
        let n : q - (p + 1) ≡ length found.label = omega (arith, found.octet) in
        let r : p + 1 + length found.label ≡ q = omega (arith, found.octet) in
        ap (map folded) found.is
        ∙ both (sym (ap (λ (k : ℕ). take k (drop (p + 1) s)) n ∙ found.octets))
        (sym (ap (λ (k : ℕ). labels_of (drop k s)) (sym r) ∙ found.after))
      where
        both : {l m : List ℕ} {ls ms : List (List ℕ)} → l ≡ m → ls ≡ ms → map folded (l ∷ ls) ≡ map folded (m ∷ ms)
        both e g = rw (e, g)

-- the label before a place that is not the front
module _ {s : List ℕ} {label at : ℕ} (st : Stands s label at) (h : at ≡ 0 → ⊥) where
  pub label_fits : label + 1 ≤ at
  label_fits = omega (arith, (st.behind h).1)

  -- the folded label, and those before it
  abbrev last_label : List ℕ
  last_label = folded (take (at - (label + 1)) (drop (label + 1) s))

  abbrev others : List (List ℕ)
  others = front (st.behind h).0

  last_from : (cs : List (List ℕ)) → lower s at ≡ cs → lower s label ≡ last_label ∷ cs
  last_from cs e =
      label_from (st.behind h).0 at (st.behind h).1 st.here.within ∙ ap (λ (x : List (List ℕ)). last_label ∷ x) e

  last_turned : (cs : List (List ℕ)) → lower s at ≡ cs → reverse (folded_labels s) ≡ reverse cs ++ last_label ∷ reverse others
  last_turned cs e =
      ap reverse (labels_from (st.behind h).0 ∙ ap (λ (x : List (List ℕ)). others ++ x) (last_from cs e)) ∙ turned others cs last_label

pub meets_labels : {s t : List ℕ} {x y : ℕ} → Meets s t x y → lower s x ≡ lower t y
meets_labels {s} {t} {x} {y} m =
    wire_unique (lower s x) (lower t y)
    (folded_sizes (labels_of (drop x s)) (boundary_stands m.first).sizes)
    (folded_sizes (labels_of (drop y t)) (boundary_stands m.second).sizes)
    (sym (octets_from m.first) ∙ m.same ∙ octets_from m.second)

labels_meet : {s t : List ℕ} {x y : ℕ} → Boundary s x → Boundary t y → lower s x ≡ lower t y → Meets s t x y
labels_meet b d e = record { first = b; second = d; same = octets_from b ∙ ap wire e ∙ sym (octets_from d) }

-- octets that are no name
pub unrelated : (s t : List ℕ) → (reading_of t ≡ Ok tt → ⊥) → Unrelated ≡ relation_of s t
unrelated s t f = go (reading_of t) refl
  where
    go : (r : Reading) → reading_of t ≡ r → Unrelated ≡ relation_of s t
    go (Ok _) e = absurd (f e)
    go (Err x) e = rw e

-- ---- where two names come together

module _ {s t : List ℕ} {r : Fork} (f : Forks s t r) where
  abbrev cs : List (List ℕ)
  cs = lower t r.q

  from_first : lower s r.p ≡ cs
  from_first = meets_labels f.meets

  -- they share the labels from there on, and these octets
  shared_octets : shared s t ≡ length cs → length (shared_ancestor s t) ≡ length t - r.q
  shared_octets e =
      let n : shared s t ≡ length (labels_of (drop r.q t)) = e ∙ length-map (labels_of (drop r.q t)) folded in
      ap (λ (k : ℕ). length (wire (drop (length (labels_of t) - k) (labels_of t)))) n
      ∙ ap length f.second.here.tail
      ∙ length-drop r.q t

  relation : (o : Ordering) → right_order (reverse (folded_labels s)) (reverse (folded_labels t)) ≡ o → shared s t ≡ length cs
      → relation_of s t ≡ related o (length t - r.q)
  relation o e n = rw (f.second.here.whole, e, shared_octets n)

  first_all : r.p ≡ 0 → folded_labels s ≡ cs
  first_all z = ap (λ (k : ℕ). lower s k) (sym z) ∙ from_first

  second_all : r.q ≡ 0 → folded_labels t ≡ cs
  second_all z = ap (λ (k : ℕ). lower t k) (sym z)

  pub equal : r.p ≡ 0 → r.q ≡ 0 → Equal ≡ relation_of s t
  equal zp zq =
      let e : folded_labels s ≡ folded_labels t = first_all zp ∙ sym (second_all zq) in
      rw (f.second.here.whole, e, right_refl (reverse (folded_labels t)))

  pub before : r.p ≡ 0 → (r.q ≡ 0 → ⊥) → Before (length t - r.q) ≡ relation_of s t
  before z h =
      let sp =
      split_at (folded_labels s) (folded_labels t) cs [] _ (ap reverse (first_all z) ∙ whole_turned cs) (last_turned f.second h cs refl) in
      sym (relation Less sp.order (omega (arith, sp.count)))

  pub after : (r.p ≡ 0 → ⊥) → r.q ≡ 0 → After (length t - r.q) ≡ relation_of s t
  after h z =
      let sp =
      split_at (folded_labels s) (folded_labels t) cs _ [] (last_turned f.first h cs from_first)
      (ap reverse (second_all z) ∙ whole_turned cs) in
      sym (relation Greater sp.order (omega (arith, sp.count)))

  module _ (hp : r.p ≡ 0 → ⊥) (hq : r.q ≡ 0 → ⊥) (o : Ordering)
      (eo : o ≡ order_of (last_label f.first hp) (last_label f.second hq)) where
    labels_split : Split (folded_labels s) (folded_labels t) cs (last_label f.first hp ∷ reverse (others f.first hp))
        (last_label f.second hq ∷ reverse (others f.second hq))
    labels_split =
        split_at (folded_labels s) (folded_labels t) cs _ _ (last_turned f.first hp cs from_first) (last_turned f.second hq cs refl)

    -- the labels before those that are shared differ
    pub never_same : o ≡ Equal → ⊥
    never_same e =
        let l = order_same (last_label f.first hp) (last_label f.second hq) (sym eo ∙ e) in
        let m : Meets s t r.a r.b =
        labels_meet (f.first.behind hp).0 (f.second.behind hq).0
        (last_from f.first hp cs from_first ∙ ap (λ (x : List ℕ). x ∷ cs) l ∙ sym (last_from f.second hq cs refl)) in
        omega (arith, f.least r.a r.b m, label_fits f.first hp)

    pub by_label_before : o ≡ Less → Before (length t - r.q) ≡ relation_of s t
    by_label_before e =
        let d = sym eo ∙ e in
        sym (relation Less (labels_split.order ∙ rw d) (labels_split.count ∙ rw d (omega arith)))

    pub by_label_after : o ≡ Greater → After (length t - r.q) ≡ relation_of s t
    by_label_after e =
        let d = sym eo ∙ e in
        sym (relation Greater (labels_split.order ∙ rw d) (labels_split.count ∙ rw d (omega arith)))
