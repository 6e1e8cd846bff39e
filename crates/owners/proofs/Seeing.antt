-- One look is one comparison: its number is positive exactly where the owner is after the query.
use mathlib.Core.Path.{◌≡◌, refl, sym, ap, ◌∙◌}
use mathlib.Core.List.{List, reverse}
use mathlib.Core.Logic.{◌⊎◌, inl, inr}
use Prim.Native.Nat.{ℕ}
use Rattle.name.specs.Wire.{Reading}
use Rattle.std.specs.Prelude.{Ok, Err}
use Rattle.name.specs.Wire.{reading_of}
use Rattle.order.specs.Order.{Before, folded_labels}
use Rattle.order.specs.Compare.{right_order, number_of, compare_of}
use Rattle.order.proofs.Canonical.{before_total}
use Rattle.order.proofs.Comparison.{number_same, number_earlier, number_later, right_refl, right_earlier, right_later}
use Rattle.encloser.specs.Gap.{is_earlier, is_before}
use Rattle.owners.specs.Private.Looks.{is_positive, told_by, look_from}

-- the number of the owner and the query says which comes first
positive_after : (owner query : List ℕ) → is_positive (number_of (folded_labels owner) (folded_labels query)) ≡ is_before query owner
positive_after owner query = go (before_total os qs)
  where
    os : List (List ℕ)
    os = folded_labels owner

    qs : List (List ℕ)
    qs = folded_labels query

    go : Before os qs ⊎ ((os ≡ qs) ⊎ Before qs os) → is_positive (number_of os qs) ≡ is_before query owner
    go (inl h) = ap is_positive (number_earlier os qs h) ∙ sym (ap is_earlier (right_later (reverse qs) (reverse os) h))
    go (inr (inl e)) =
        ap (λ (ls : List (List ℕ)). is_positive (number_of ls qs)) e ∙ ap is_positive (number_same qs)
        ∙ sym (ap (λ (ls : List (List ℕ)). is_earlier (right_order (reverse qs) (reverse ls))) e ∙ ap is_earlier (right_refl (reverse qs)))
    go (inr (inr h)) = ap is_positive (number_later os qs h) ∙ sym (ap is_earlier (right_earlier (reverse qs) (reverse os) h))

-- what the comparison of the owner with the query tells is what the owner tells of it
pub told_look : (owner query : List ℕ) → told_by (compare_of owner query) ≡ look_from query owner
told_look owner query = go (reading_of owner) (reading_of query) refl refl
  where
    go : (a b : Reading) → reading_of owner ≡ a → reading_of query ≡ b → told_by (compare_of owner query) ≡ look_from query owner
    go (Ok _) (Ok _) a b = rw (a, b, positive_after owner query)
    go (Err f) (Ok _) a b = rw (a, b)
    go (Ok _) (Err f) a b = rw (a, b)
    go (Err f) (Err g) a b = rw (a, b)
