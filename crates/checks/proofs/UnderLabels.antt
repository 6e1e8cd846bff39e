-- A name is at or under the apex exactly where its folded labels are others and then all the apex's (`under_labels`, `labels_under`).
use mathlib.Core.Path.{◌≡◌, sym, ap, ◌∙◌}
use mathlib.Core.List.{List, ◌++◌}
use mathlib.Core.Bool.{true}
use Prim.Native.Nat.{ℕ, ◌+◌}
use native.Mathlib.Omega.{arith}
use borrow.Author.Tests.{le-leb}
use lib.Dec.{leb}
use lib.ListN.{length, drop, length-append, length-map, take-append-drop}
use lib.Seq.{drop-append_seam}
use Rattle.name.specs.Labels.{labels_of}
use Rattle.space.specs.Fold.{folded}
use Rattle.order.specs.Order.{folded_labels}
use Rattle.checks.specs.Under.{same_labels, is_under, more, above}
use Rattle.facts.proofs.Booleans.{both_true}
use Rattle.checks.proofs.Sameness.{same_labels_equal, same_labels_refl}

module _ (apex name : List ℕ) where
  pub under_labels : is_under apex name ≡ true → folded_labels name ≡ above apex name ++ folded_labels apex
  under_labels h =
      let lower = drop (more apex name) (folded_labels name) in
      let t = both_true (leb (length (labels_of apex)) (length (labels_of name))) (same_labels lower (folded_labels apex)) h in
      sym (take-append-drop (more apex name) (folded_labels name))
      ∙ ap (λ (ls : List (List ℕ)). above apex name ++ ls) (same_labels_equal lower (folded_labels apex) t.1)

  pub labels_under : (ls : List (List ℕ)) → folded_labels name ≡ ls ++ folded_labels apex → is_under apex name ≡ true
  labels_under ls e =
      let n : length (labels_of name) ≡ length ls + length (labels_of apex) =
      sym (length-map (labels_of name) folded) ∙ ap length e ∙ length-append ls (folded_labels apex)
      ∙ rw (length-map (labels_of apex) folded) in
      let m : more apex name ≡ length ls = omega arith in
      rw (
        le-leb (length (labels_of apex)) (length (labels_of name)) (omega arith),
        m,
        e,
        drop-append_seam ls (folded_labels apex),
        same_labels_refl (folded_labels apex),
      )
