-- Of two ancestors of a name the one that is not longer is above the other (`shorter_above`), so that two of one length are one name,
-- letter case aside (`closest_only`); and names that differ in letter case alone exist alike (`exists_alike`).
use mathlib.Core.Path.{◌≡◌, refl, sym, ap, ◌∙◌}
use mathlib.Core.List.{List, []}
use mathlib.Core.Bool.{true}
use mathlib.Core.Logic.{inl, inr}
use Prim.Native.Nat.{ℕ, ◌≤◌}
use native.Mathlib.Omega.{arith}
use lib.ListN.{length}
use Rattle.std.specs.Prelude.{Ok}
use Rattle.name.specs.Wire.{reading_of}
use Rattle.name.specs.Labels.{wire}
use Rattle.name.proofs.Folding.{folded_is_wire}
use Rattle.space.specs.Fold.{folded}
use Rattle.order.specs.Order.{folded_labels}
use Rattle.checks.specs.Under.{is_under}
use Rattle.checks.proofs.UnderLabels.{labels_under}
use Rattle.encloser.proofs.Sharing.{longest, shorter_shared, all_shared}
use Rattle.owners.proofs.FoldedNames.{under_folded}
use Rattle.existing.specs.Existing.{Exists, IsClosest}
use Rattle.existing.proofs.Subtrees.{NotAfter, not_both, above_not_after}
-- passed on, so that a wrong definition is refused at an example before any law of it is tried
pub use Rattle.existing.proofs.Examples.{accepted, non_terminals, enclosers}

module _ (first second name : List ℕ) (wf : reading_of first ≡ Ok tt) (ws : reading_of second ≡ Ok tt)
    (uf : is_under first name ≡ true) (us : is_under second name ≡ true) where
  pub shorter_above : length first ≤ length second → is_under first second ≡ true
  shorter_above h = shorter_shared name second ws first wf uf (rw (all_shared name second ws us) h)

pub same_ancestor : (first second name : List ℕ) → reading_of first ≡ Ok tt → reading_of second ≡ Ok tt → is_under first name ≡ true
    → is_under second name ≡ true → length first ≡ length second → folded first ≡ folded second
same_ancestor first second name wf ws uf us e =
    let l : folded_labels first ≡ folded_labels second = go
    (above_not_after first second (shorter_above first second name wf ws uf us (omega arith)))
    (above_not_after second first (shorter_above second first name ws wf us uf (omega arith))) in
    folded_is_wire first wf ∙ ap wire l ∙ sym (folded_is_wire second ws)
  where
    go : NotAfter first second → NotAfter second first → folded_labels first ≡ folded_labels second
    go (inl h) k = absurd (not_both first second h k)
    go (inr l) k = l

-- the closest encloser is one name
pub closest_only : {apex : List ℕ} {names : List (List ℕ)} {query : List ℕ} (first second : List ℕ) → IsClosest apex names query first
    → IsClosest apex names query second → folded first ≡ folded second
closest_only {query = query} first second c d =
    same_ancestor first second query c.exists.0 d.exists.0 c.encloses d.encloses
    (omega (arith, c.longest second d.exists d.encloses, d.longest first c.exists c.encloses))

-- a name that exists is its own
pub own_closest : (apex : List ℕ) (names : List (List ℕ)) (query : List ℕ) → Exists apex names query → IsClosest apex names query query
own_closest apex names query x =
    record {
      exists = x;
      encloses = itself;
      longest = λ other e u.
          rw (all_shared query query x.0 itself)
          at (longest query query x.0 other (record { whole = e.0; of_query_lem = u; of_name = u }));
    }
  where
    itself : is_under query query ≡ true
    itself = labels_under query query [] refl

under_alike : (first second name : List ℕ) → reading_of first ≡ Ok tt → reading_of second ≡ Ok tt → folded first ≡ folded second
    → is_under first name ≡ is_under second name
under_alike first second name wf ws e =
    sym (under_folded first wf name) ∙ ap (λ (x : List ℕ). is_under x name) e ∙ under_folded second ws name

pub exists_alike : (apex : List ℕ) (names : List (List ℕ)) (first second : List ℕ) → reading_of second ≡ Ok tt → is_under apex second ≡ true
    → folded first ≡ folded second → Exists apex names first → Exists apex names second
exists_alike apex names first second ws u e (wf, v, (o, m, k)) = (ws, u, (o, m, sym (under_alike first second o wf ws e) ∙ k))
