-- The gap around a name that is not listed covers none that is (`denies_itself`): of all names that could be listed it covers those with
-- the name's labels, so the name alone, and that one is not the apex, which is listed.
use mathlib.Core.Path.{◌≡◌, sym, ap, ◌∙◌}
use mathlib.Core.List.Memᴰ
use mathlib.Core.List.{List, ◌++◌, Memᴰ}
use mathlib.Core.Bool.{true}
use mathlib.Core.Logic.{◌↔◌}
use Prim.Native.Nat.{ℕ, zero, suc, ◌≤◌}
use native.Mathlib.Omega.{arith}
use lib.ListN.{take}
use Rattle.facts.proofs.Booleans.{never_true}
use Rattle.space.specs.Fold.{folded}
use Rattle.std.specs.Prelude.{Ok}
use Rattle.name.specs.Wire.{reading_of}
use Rattle.name.specs.Labels.{wire}
use Rattle.name.specs.Answer.{answer}
use Rattle.name.proofs.Folding.{folded_is_wire}
use Rattle.order.specs.Order.{folded_labels}
use Rattle.checks.specs.Under.{more, under}
use Rattle.checks.proofs.UnderLabels.{under_labels}
use Rattle.alphabet.specs.declared.Alphabet.{Alphabet}
use Rattle.neighbour.specs.Neighbour.{successor_in, predecessor_in}
use Rattle.neighbour.specs.Modified.{modified_successor_in, modified_predecessor_in}
use Rattle.neighbour.specs.Nearest.{QuestionIn, InZone, InZoneOf}
use Rattle.neighbour.specs.ShortSet.{InShortSetOf}
use Rattle.neighbour.proofs.NearestNames.{successor_labels, predecessor_labels}
use Rattle.neighbour.proofs.ModifiedNames.{modified_answer}
use Rattle.owners.proofs.FoldedNames.{labels_folded}
use Rattle.covering.specs.Between.{covers_of}
use Rattle.gaps.proofs.Gaps.{alone_at, gaps}
use Rattle.existing.specs.OnTheSpot.{NamesOf, DeniesItself}

-- names with the same folded labels, of which one is folded
module _ (u name : List ℕ) (folds : folded u ≡ u) (wu : reading_of u ≡ Ok tt) (wn : reading_of name ≡ Ok tt) where
  labels_name : folded_labels u ≡ folded_labels name → u ≡ folded name
  labels_name e = sym folds ∙ folded_is_wire u wu ∙ ap wire e ∙ sym (folded_is_wire name wn)

  name_labels : u ≡ folded name → folded_labels u ≡ folded_labels name
  name_labels e = ap folded_labels e ∙ labels_folded name wn

-- any set of names of a zone, and a gap that covers the name alone by its labels
module _ (In : List ℕ → Type 0) (apex : List ℕ) (limit : ℕ) (in-zone : (u : List ℕ) → In u → InZone apex limit u) (names : List (List ℕ))
    (n : NamesOf In apex names) (name : List ℕ) (whole : reading_of name ≡ Ok tt) (missing : Memᴰ (folded name) names → ⊥) where
  denies_itself : (owner next : List ℕ)
      → ((u : List ℕ) → In u → (covers_of owner next u ≡ true) ↔ (folded_labels u ≡ folded_labels name))
      → DeniesItself In names name owner next
  denies_itself owner next covers =
      record {
        no_listed = λ other m.
            never_true (covers_of owner next other) (λ t. missing (Memᴰ.cast (sym ((alone other (n.lie_in other m)).0 t)) m));
        alone = alone;
      }
    where
      alone : (u : List ℕ) → In u → (covers_of owner next u ≡ true) ↔ (u ≡ folded name)
      alone u i =
          let z = in-zone u i in (
            λ t. labels_name u name z.folds z.formed.whole whole ((covers u i).0 t),
            λ e. (covers u i).1 (name_labels u name z.folds z.formed.whole whole e),
          )

module _ (alphabet : Alphabet) (apex : List ℕ) (limit : ℕ) (names : List (List ℕ)) (name owner next : List ℕ)
    (q : QuestionIn alphabet apex limit name) (missing : Memᴰ (folded name) names → ⊥) where
  -- it is not the apex
  other : Memᴰ (folded apex) names → 1 ≤ more apex name
  other m = go (more apex name) (under_labels apex name q.question.under)
    where
      go : (k : ℕ) → folded_labels name ≡ take k (folded_labels name) ++ folded_labels apex → 1 ≤ k
      go zero e =
          absurd (missing (Memᴰ.cast
          (folded_is_wire name q.question.name_formed.whole ∙ ap wire e ∙ sym (folded_is_wire apex q.question.apex_formed.whole))
          m))
      go (suc k) e = omega arith

  pub neighbours_itself : NamesOf (InZoneOf alphabet apex limit) apex names → predecessor_in alphabet apex limit name ≡ answer owner
      → successor_in alphabet apex limit name ≡ answer next → DeniesItself (InZoneOf alphabet apex limit) names name owner next
  neighbours_itself n e f =
      denies_itself (InZoneOf alphabet apex limit) apex limit (λ u z. z.zone) names n name q.question.name_formed.whole missing
      owner next
      ((gaps alphabet apex limit name q).alone (other n.has_apex) owner next e f)

  pub modified_itself : (depth : ℕ) → NamesOf (InShortSetOf alphabet depth apex limit) apex names
      → modified_predecessor_in alphabet depth apex limit name ≡ answer owner
      → modified_successor_in alphabet depth apex limit name ≡ answer next
      → DeniesItself (InShortSetOf alphabet depth apex limit) names name owner next
  unfolding predecessor_labels successor_labels
  modified_itself depth n e f =
      let ps : List ℕ = under apex (predecessor_labels alphabet apex limit name q depth) in
      let ns : List ℕ = under apex (successor_labels alphabet apex limit name q depth) in
      let o : ps ≡ owner = (modified_answer alphabet depth apex limit name q ps owner e).1 in
      let x : ns ≡ next = (modified_answer alphabet depth apex limit name q ns next f).1 in
      denies_itself (InShortSetOf alphabet depth apex limit) apex limit (λ u z. z.zone.zone) names n name
      q.question.name_formed.whole missing owner next
      (λ u w. rw (← o, ← x) (alone_at alphabet apex limit name q (other n.has_apex) depth u (record { zone = w.zone; few = w.few })))
