-- What document 01 says of names holds: each part is a law of the crate that defines what it speaks of.
use mathlib.Core.Path.{◌≡◌, sym}
use mathlib.Core.List.{List, [], ◌∷◌}
use mathlib.Core.Logic.{◌⊎◌, inl, inr, ◌↔◌}
use Prim.Native.Nat.{ℕ, zero, suc, ◌≤◌, ◌<◌}
use native.Mathlib.Omega.{arith}
use lib.ListN.{length, get_or, length-map}
use lib.IntN.{nat_abs}
use Rattle.space.specs.Fold.{lower_of, folded}
use Rattle.name.specs.WellFormed.{WellFormed}
use Rattle.name.specs.Labels.{wire, IsName, labels_of}
use Rattle.name.proofs.Labels.{wire_some, wire_whole, labels_wire, wire_labels, wire_octets, whole_name, at_most_127_labels}
use Rattle.name.proofs.Folding.{lower_letter, lower_small, lower_large, lower_not_upper, folded_octets, folded_labels_lem, folded_whole}
use Rattle.order.specs.Order.{folded_labels}
use Rattle.order.specs.Compare.{number_of}
use Rattle.order.proofs.Canonical.{before_irreflexive, before_transitive, before_total, before_under}
use Rattle.order.proofs.Comparison.{number_swap}
use Rattle.order.proofs.SharedLabels.{number_range}
use Rattle.key.proofs.KeyLength.{name_key_length}
use Rattle.demands.specs.Names.{Names}

named : (s : List ℕ) → WellFormed s ↔ (ls : List (List ℕ)) × IsName ls × (s ≡ wire ls)
named s = (
  λ w. (labels_of s, whole_name s w.octets w.whole, sym (wire_labels s w.whole)),
  λ n. rw n.2 (record { octets = wire_octets n.0 n.1.sizes n.1.octets; whole = wire_whole n.0 n.1 }),
)

at_most : (ls : List (List ℕ)) → IsName ls → length ls ≤ 127
at_most ls n = rw (labels_wire ls n.sizes) at (at_most_127_labels (wire ls) (wire_whole ls n))

kept : (o : ℕ) → (o < 65) ⊎ (90 < o) → lower_of o ≡ o
kept o (inl h) = lower_small o h
kept o (inr h) = lower_large o h

no_upper : (s : List ℕ) (i : ℕ) → 65 ≤ get_or (folded s) i 0 → get_or (folded s) i 0 ≤ 90 → ⊥
no_upper [] i a b = omega arith
no_upper (o ∷ s) zero a b = lower_not_upper o a b
no_upper (o ∷ s) (suc i) a b = no_upper s i a b

in_range : (s t : List ℕ) → WellFormed s → WellFormed t → nat_abs (number_of (folded_labels s) (folded_labels t)) ≤ 127
in_range s t v w =
    number_range (folded_labels s) (folded_labels t)
    (rw (length-map (labels_of s) folded) (at_most_127_labels s v.whole))
    (rw (length-map (labels_of t) folded) (at_most_127_labels t w.whole))

pub names : Names
names =
    record {
      well_formed = named;
      some = wire_some;
      labels = λ ls n. labels_wire ls n.sizes;
      at_most_127 = at_most;
      letter_folded = lower_letter;
      other_kept = kept;
      folded_formed = λ s w. record { octets = folded_octets s w.octets; whole = folded_whole s w.whole };
      no_upper = no_upper;
      labels_folded = λ s w. folded_labels_lem s w.whole;
      irreflexive = before_irreflexive;
      transitive = before_transitive;
      total = before_total;
      under_later = before_under;
      range = in_range;
      swap = number_swap;
      key_length = λ s w. name_key_length s w.whole;
    }
