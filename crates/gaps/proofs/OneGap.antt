-- The gap of a name: its ends are the answers of the predecessor and of the subtree successor in the full alphabet (`owner_answer`,
-- `next_answer`), so it covers exactly the names at or under the name (`one_covers`), which its ends are not (`owner_off`, `next_off`).
use mathlib.Core.Path.{◌≡◌, refl, ◌∙◌}
use mathlib.Core.List.{List}
use mathlib.Core.Bool.{true, false}
use mathlib.Core.Logic.{◌↔◌}
use Prim.Native.Nat.{ℕ, ◌≤◌}
use lib.ListN.{length}
use Rattle.name.specs.Labels.{wire}
use Rattle.name.specs.Answer.{answer}
use Rattle.order.specs.Place.{full}
use Rattle.order.specs.Order.{folded_labels}
use Rattle.zone.specs.Zone.{Member}
use Rattle.checks.specs.Under.{is_under, more, above, under}
use Rattle.alphabet.specs.declared.Alphabet.TheVariants.{Full}
use Rattle.covered.proofs.Joined.{Around}
use Rattle.neighbour.specs.Neighbour.{predecessor_in}
use Rattle.neighbour.specs.Nearest.{Question, InZone}
use Rattle.neighbour.proofs.Questions.{question_passes}
use Rattle.neighbour.proofs.FullAlphabet.{full_above, full_question, full_zone, full_predecessor}
use Rattle.neighbour.proofs.ZoneNames.{member_zone}
use Rattle.neighbour.proofs.NearestNames.{successor_labels, predecessor_labels, predecessor_previous}
use Rattle.subtree.specs.Successor.{subtree_successor_in}
use Rattle.subtree.proofs.PastNames.{subtree_next}
use Rattle.covering.specs.Between.{covers_of}
use Rattle.gaps.specs.Denial.{owner_of, next_of}
use Rattle.gaps.proofs.Gaps.{around, gaps}

module _ (apex : List ℕ) (limit : ℕ) (name : List ℕ) (q : Question apex limit name) where
  pub owner_answer : predecessor_in Full apex limit name ≡ answer (owner_of apex limit name)
  owner_answer = full_predecessor apex limit name ∙ question_passes apex limit name _ q

  pub next_answer : subtree_successor_in Full apex limit name ≡ answer (next_of apex limit name)
  next_answer = question_passes apex limit name _ q ∙ rw (full_above apex name)

  -- ---- the labels of the ends

  unfoldable pub owner_labels : List (List ℕ)
  owner_labels = predecessor_labels Full apex limit name (full_question apex limit name q) 127

  unfoldable pub next_labels : List (List ℕ)
  next_labels = successor_labels Full apex limit name (full_question apex limit name q) (length (above apex name))

  pub owner_under : owner_of apex limit name ≡ under apex owner_labels
  unfolding owner_labels predecessor_labels
  owner_under = refl

  pub next_under : next_of apex limit name ≡ under apex next_labels
  unfolding next_labels successor_labels
  next_under = refl

  pub owner_member : Member full limit 127 (folded_labels apex) owner_labels
  unfolding owner_labels
  owner_member = (predecessor_previous Full apex limit name (full_question apex limit name q) 127).member

  pub next_member : Member full limit 127 (folded_labels apex) next_labels
  unfolding next_labels
  next_member = (subtree_next Full apex limit name (full_question apex limit name q)).member

  pub owner_zone : InZone apex limit (owner_of apex limit name)
  owner_zone = rw owner_under (member_zone apex q.apex_formed Full limit 127 q.most owner_labels owner_member).zone

  pub next_zone : InZone apex limit (next_of apex limit name)
  next_zone = rw next_under (member_zone apex q.apex_formed Full limit 127 q.most next_labels next_member).zone

  -- ---- what it covers

  module _ (other : 1 ≤ more apex name) where
    pub name_around : (fits : length (wire (folded_labels apex)) ≤ limit)
        → Around full limit 127 (folded_labels apex) fits (above apex name) owner_labels next_labels
    unfolding owner_labels next_labels
    name_around fits = around Full apex limit name (full_question apex limit name q) other fits

    pub one_covers : (u : List ℕ) → InZone apex limit u
        → (covers_of (owner_of apex limit name) (next_of apex limit name) u ≡ true) ↔ (is_under name u ≡ true)
    one_covers u z =
        (gaps Full apex limit name (full_question apex limit name q)).missing other (owner_of apex limit name) (next_of apex limit name)
        owner_answer next_answer u (full_zone apex limit u z)

    pub owner_off : is_under name (owner_of apex limit name) ≡ false
    owner_off =
        ((gaps Full apex limit name (full_question apex limit name q)).owner_outside other (owner_of apex limit name) owner_answer).1

    pub next_off : is_under name (next_of apex limit name) ≡ false
    next_off =
        ((gaps Full apex limit name (full_question apex limit name q)).next_outside other (next_of apex limit name) next_answer).1
