-- Where two names come together: neither place passes the first ones from which the labels are the same (`Coming`), and as soon as so many
-- octets are left behind the one as behind the other, these are the places (`coming_end`).
use mathlib.Core.Path.{◌≡◌, sym, ap, ◌∙◌}
use mathlib.Core.List.{List, [], ◌∷◌}
use Prim.Native.Nat.{ℕ, ◌+◌, ◌-◌, ◌≤◌, ◌<◌}
use native.Mathlib.Omega.{arith}
use lib.ListN.{length, drop, length-drop}
use lib.Seq.{drop-length}
use Rattle.facts.proofs.Lists.{map_drop}
use Rattle.std.specs.Prelude.{Ok}
use Rattle.name.specs.Wire.{reading_of}
use Rattle.name.specs.Labels.{wire, labels_of}
use Rattle.name.specs.Private.Standing.{Standing}
use Rattle.name.proofs.Folding.{folded_length}
use Rattle.name.proofs.LabelSteps.{inside}
use Rattle.space.specs.Fold.{folded, lower_of}
use Rattle.tail.proofs.Tails.{tail_fewer}
use Rattle.checks.proofs.LabelPlaces.{place_of, place_labels, place_stands}
use Rattle.enclosing.specs.declared.forks.Reached.{Reached}
use Rattle.enclosing.specs.Private.Ends.{SameEnd}
use Rattle.enclosing.specs.Private.Forks.{Stands, Advances, Nears, Meets, Forks}
use Rattle.enclosing.proofs.SameEnds.{tail_of}

-- ---- the ends of a name

-- a name ends in the zero octet
record LastOctet (s : List ℕ) : Type 0 where
  some : 1 ≤ length s
  is : drop (length s - 1) (folded s) ≡ 0 ∷ []

last_octet : (s : List ℕ) → reading_of s ≡ Ok tt → LastOctet s
last_octet s e =
    let ls : List (List ℕ) = labels_of s in
    let p : ℕ = place_of ls (length ls) in
    let st : Standing s p 0 = place_stands s e (length ls) in
    let d : drop p s ≡ 0 ∷ [] = sym st.back ∙ ap wire (place_labels s e (length ls) ∙ drop-length ls) in
    let n : p ≡ length s - 1 = omega (arith, ap length d, length-drop p s, inside st) in
    record {
      some = omega (arith, inside st);
      is = ap (λ (k : ℕ). drop k (folded s)) (sym n) ∙ sym (map_drop lower_of p s) ∙ ap folded d;
    }

pub same_some : {s t : List ℕ} {n : ℕ} → reading_of s ≡ Ok tt → reading_of t ≡ Ok tt → SameEnd s t n → 1 ≤ n
same_some {s} {t} es et g =
    let a : LastOctet s = last_octet s es in
    let b : LastOctet t = last_octet t et in
    g.most 1 a.some b.some (a.is ∙ sym b.is)

-- ---- places from which the labels are the same

module _ {s t : List ℕ} {x y : ℕ} (m : Meets s t x y) where
  -- so many octets are left behind the one as behind the other
  pub meets_lengths : length s - x ≡ length t - y
  meets_lengths = omega (arith, ap length m.same, length-drop x (folded s), length-drop y (folded t), folded_length s, folded_length t)

  -- and they are among those that are the same
  pub meets_within : {n : ℕ} → SameEnd s t n → length s ≤ n + x
  meets_within {n} g =
      let hx : x < length s = m.first.within in
      let hy : y < length t = m.second.within in
      let i : length s - (length s - x) ≡ x = omega arith in
      let j : length t - (length s - x) ≡ y = omega (arith, meets_lengths) in
      omega (arith, g.most (length s - x) (omega arith) (omega (arith, meets_lengths)) (rw (i, j) m.same))

-- ---- on the way to them

pub record Coming (s t : List ℕ) (same a p b q : ℕ) : Type 0 where
  pub first : Stands s a p
  pub second : Stands t b q
  pub closer : length t - q ≤ length s - p
  pub within : length s - p ≤ same
  pub least : (x y : ℕ) → Meets s t x y → (p ≤ x) × (q ≤ y)

-- both go on from places that pass none
module _ {s t : List ℕ} {p q most same : ℕ} (least : (x y : ℕ) → Meets s t x y → (p ≤ x) × (q ≤ y))
    (near : (x y : ℕ) → Meets s t x y → length s ≤ most + x) (few : most ≤ same) {u v : Reached} (au : Advances s p most u)
    (av : Advances t q (length s - u.at) v) where
  coming : Coming s t same u.label u.at v.label v.at
  coming =
      record {
        first = au.stands;
        second = av.stands;
        closer = omega (arith, av.close);
        within = omega (arith, au.close);
        least = λ x y m.
            let hx : u.at ≤ x = au.first x m.first (least x y m).0 (near x y m) in
            (hx, av.first y m.second (least x y m).1 (omega (arith, meets_lengths m, m.first.within)));
      }

-- from places that are not behind them
pub coming_start : {s t : List ℕ} {same : ℕ} {u v x y : Reached} → Nears s same u → Nears t same v → SameEnd s t same
    → Advances s u.at same x → Advances t v.at (length s - x.at) y
    → Coming s t same x.label x.at y.label y.at
coming_start nu nv g ax ay =
    coming
    (λ x y m. (
      nu.first x m.first (meets_within m g),
      nv.first y m.second (omega (arith, meets_within m g, meets_lengths m, m.first.within, m.second.within)),
    ))
    (λ x y m. meets_within m g) (omega arith) ax ay

module _ {s t : List ℕ} {same a p b q : ℕ} (g : Coming s t same a p b q) where
  -- some octets are left behind both
  pub coming_some : (p < length s) × (q < length t)
  coming_some = (g.first.here.within, g.second.here.within)

  pub coming_next : {u v : Reached} → Advances s p (length t - q) u → Advances t q (length s - u.at) v
      → Coming s t same u.label u.at v.label v.at
  coming_next au av =
      coming g.least (λ x y m. omega (arith, meets_lengths m, (g.least x y m).1, m.first.within, m.second.within))
      (omega (arith, g.closer, g.within)) au av

  pub coming_end : SameEnd s t same → length s - p ≡ length t - q → Forks s t (record { a = a; p = p; b = b; q = q })
  coming_end e d =
      record {
        first = g.first;
        second = g.second;
        meets = record {
          first = g.first.here;
          second = g.second.here;
          same = tail_fewer (tail_of e) p q (omega (arith, coming_some.0)) (omega (arith, coming_some.1)) d g.within;
        };
        least = λ x y m. (g.least x y m).0;
      }
