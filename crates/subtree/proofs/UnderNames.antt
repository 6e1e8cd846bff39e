-- A name is at or under another by octets exactly where it is by their labels above an apex that both are under (`under_labels_above`,
-- `labels_above_under`).
use mathlib.Core.Path.{◌≡◌, sym, ap, ◌∙◌}
use mathlib.Core.List.{List, ◌++◌, append_assoc, append_cancel_right}
use mathlib.Core.Bool.{true}
use Prim.Native.Nat.{ℕ}
use Rattle.order.specs.Order.{folded_labels}
use Rattle.checks.specs.Under.{is_under, above}
use Rattle.checks.proofs.UnderLabels.{under_labels, labels_under}
use Rattle.covered.specs.Subtree.{AtOrUnder}

module _ (apex name u : List ℕ) (h : is_under apex name ≡ true) (g : is_under apex u ≡ true) where
  pub labels_above_under : AtOrUnder (above apex name) (above apex u) → is_under name u ≡ true
  labels_above_under (vs, e) =
      labels_under name u vs
      (under_labels apex u g
      ∙ ap (λ (ls : List (List ℕ)). ls ++ folded_labels apex) e
      ∙ append_assoc vs (above apex name) (folded_labels apex)
      ∙ ap (λ (ls : List (List ℕ)). vs ++ ls) (sym (under_labels apex name h)))

  pub under_labels_above : is_under name u ≡ true → AtOrUnder (above apex name) (above apex u)
  under_labels_above t = (
    above name u,
    append_cancel_right (above apex u) (above name u ++ above apex name) (folded_labels apex)
        (sym (under_labels apex u g)
        ∙ under_labels name u t
        ∙ ap (λ (ls : List (List ℕ)). above name u ++ ls) (under_labels apex name h)
        ∙ sym (append_assoc (above name u) (above apex name) (folded_labels apex))),
  )
