-- The places that were noted of a name, and its folded labels: at the i-th place stands the i-th label.
use mathlib.Core.Path.{◌≡◌, sym, ap, ◌∙◌}
use mathlib.Core.List.{List, []}
use Prim.Native.Nat.{ℕ, ◌+◌, ◌≤◌, ◌<◌}
use native.Mathlib.Omega.{arith}
use lib.ListN.{length, drop, get_or, length-map, get_or-map}
use lib.Seq.{get_or-take}
use Rattle.name.specs.Labels.{wire, Sizes, labels_of}
use Rattle.name.specs.Starts.{starts_of, label_at}
use Rattle.name.specs.Private.Marks.{Starts}
use Rattle.space.specs.Fold.{lower_of, folded}
use Rattle.facts.proofs.Lists.{map_drop}
use Rattle.name.proofs.Labels.{label_sizes}
use Rattle.name.proofs.Folding.{folded_sizes, folded_wire}
use Rattle.name.proofs.LabelPlaces.{sizes_drop, starts_length, starts_most, start_stands, start_label}
use Rattle.order.specs.Order.{folded_labels}

pub starts_count : (s places : List ℕ) (n : ℕ) → Starts s places n → n ≡ length (labels_of s)
starts_count s places n st = st.count ∙ starts_length s st.whole

-- the i-th place
pub start_place : (s places : List ℕ) (n i : ℕ) → Starts s places n → i < n → get_or places i 0 ≡ get_or (starts_of s) i 0
start_place s places n i st h = sym (get_or-take n places i 0 h) ∙ ap (λ (t : List ℕ). get_or t i 0) st.first

module _ {s places : List ℕ} {n i p : ℕ} (st : Starts s places n) (h : i < n) (e : p ≡ get_or places i 0) where
  at : p ≡ get_or (starts_of s) i 0
  at = e ∙ start_place s places n i st h

  some : i < length (labels_of s)
  some = omega (arith, starts_count s places n st)

  pub start_fits : p + 1 + get_or s p 0 ≤ length s
  start_fits = rw at (start_label s st.whole i some []).within

  pub start_folded : folded (label_at s p) ≡ get_or (folded_labels s) i []
  start_folded =
      ap (λ (k : ℕ). folded (label_at s k)) at
      ∙ ap folded (start_label s st.whole i some []).is
      ∙ sym (get_or-map folded (labels_of s) i [])

pub starts_at_most_127 : (s places : List ℕ) (n : ℕ) → Starts s places n → n ≤ 127
starts_at_most_127 s places n st = omega (arith, st.count, starts_most s st.whole)

pub starts_folded : (s places : List ℕ) (n : ℕ) → Starts s places n → n ≡ length (folded_labels s)
starts_folded s places n st = simp length-map (starts_count s places n st)

-- ---- what stands from a label on

pub rest_sizes : (s places : List ℕ) (n i : ℕ) → Starts s places n → Sizes (drop i (folded_labels s))
rest_sizes s places n i st = sizes_drop (folded_labels s) i (folded_sizes (labels_of s) (label_sizes s st.whole))

pub start_rest : (s places : List ℕ) (n i p : ℕ) → Starts s places n → i < n → p ≡ get_or places i 0
    → drop p (folded s) ≡ wire (drop i (folded_labels s))
start_rest s places n i p st h e =
    let ls : List (List ℕ) = labels_of s in
    let stands : drop p s ≡ wire (drop i ls) = rw (at st h e) (start_stands s st.whole i (some st h e)) in
    sym (map_drop lower_of p s)
    ∙ ap folded stands
    ∙ folded_wire (drop i ls) (sizes_drop ls i (label_sizes s st.whole))
    ∙ ap wire (map_drop folded i ls)
