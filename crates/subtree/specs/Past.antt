-- What the subtree successor of a name is to be, over names as octets: the least name of the zone that is after it and not under it, or the
-- apex where there is none.
use Rattle.std.specs.Prelude.{◌≡◌, List, false, ◌⊎◌, ℕ}
use Rattle.name.specs.Answer.{answer}
use Rattle.space.specs.Fold.{folded}
use Rattle.order.specs.Order.{SortsBefore}
use Rattle.checks.specs.Under.{is_under, more}
use Rattle.alphabet.specs.declared.Alphabet.{Alphabet}
use Rattle.neighbour.specs.Nearest.{QuestionIn, InZoneOf}
use Rattle.subtree.specs.Successor.{subtree_successor_in}

-- u is after the name, and not under it
pub record Past (name u : List ℕ) : Type 0 where
  pub after : SortsBefore name u
  pub outside : is_under name u ≡ false

-- the answer is the least of a set of names that is past the name, or the apex where none is
pub record LeastPast (In : List ℕ → Type 0) (apex name answer : List ℕ) : Type 0 where
  pub member : In answer
  pub nearest : (Past name answer × ((u : List ℕ) → In u → Past name u → SortsBefore u answer → ⊥))
      ⊎ (((u : List ℕ) → In u → Past name u → ⊥) × (answer ≡ folded apex))

-- the subtree successor of every name, for any alphabet
pub record SubtreeSuccessors : Type 0 where
  -- every question that the checks let pass gets an answer, given room
  pub answered : (alphabet : Alphabet) (apex : List ℕ) (limit : ℕ) (name : List ℕ) → QuestionIn alphabet apex limit name
      → (a : List ℕ) × (subtree_successor_in alphabet apex limit name ≡ answer a)
  -- it is the first name of the zone past the name, or the apex
  pub least : (alphabet : Alphabet) (apex : List ℕ) (limit : ℕ) (name a : List ℕ) → QuestionIn alphabet apex limit name
      → subtree_successor_in alphabet apex limit name ≡ answer a → LeastPast (InZoneOf alphabet apex limit) apex name a
  -- every name of the zone is at or under the apex, so that of the apex is the apex
  pub of_apex : (alphabet : Alphabet) (apex : List ℕ) (limit : ℕ) (name : List ℕ) → QuestionIn alphabet apex limit name
      → more apex name ≡ 0 → subtree_successor_in alphabet apex limit name ≡ answer (folded apex)
