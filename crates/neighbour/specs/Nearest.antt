-- What the neighbours of a name are to be, over names as octets (document 01, "The zone", "Absolute neighbours"): the zone of an apex and a
-- limit, and the nearest of a set of names after and before a name, in the canonical order.
use Rattle.std.specs.Prelude.{◌≡◌, List, true, ◌⊎◌, ℕ, ◌+◌, ◌≤◌, length}
use Rattle.name.specs.WellFormed.{WellFormed}
use Rattle.space.specs.Fold.{folded}
use Rattle.order.specs.Order.{SortsBefore}
use Rattle.alphabet.specs.declared.Alphabet.{Alphabet}
use Rattle.alphabet.specs.Alphabets.{all_spelled}
use Rattle.checks.specs.Under.{is_under, above}

-- a question that the checks 1 to 6 let pass: a name at or under the apex and within a limit of at most 255, which leaves room for a name
-- under the apex
pub record Question (apex : List ℕ) (limit : ℕ) (name : List ℕ) : Type 0 where
  pub some : 1 ≤ limit
  pub most : limit ≤ 255
  pub apex_formed : WellFormed apex
  pub apex_fits : length apex + 2 ≤ limit
  pub name_formed : WellFormed name
  pub name_fits : length name ≤ limit
  pub under : is_under apex name ≡ true

-- one that the check 12 lets pass too: the labels above the apex are spelled in an alphabet
pub record QuestionIn (alphabet : Alphabet) (apex : List ℕ) (limit : ℕ) (name : List ℕ) : Type 0 where
  pub question : Question apex limit name
  pub spelled : all_spelled alphabet (above apex name) ≡ true

-- document 01's zone: the folded names at or under the apex with length at most the limit
pub record InZone (apex : List ℕ) (limit : ℕ) (name : List ℕ) : Type 0 where
  pub formed : WellFormed name
  pub folds : folded name ≡ name
  pub under : is_under apex name ≡ true
  pub fits : length name ≤ limit

-- a zone that keeps to an alphabet (document 02, request Eight): the names of the zone whose labels above the apex are spelled in it
pub record InZoneOf (alphabet : Alphabet) (apex : List ℕ) (limit : ℕ) (name : List ℕ) : Type 0 where
  pub zone : InZone apex limit name
  pub spelled : all_spelled alphabet (above apex name) ≡ true

-- the answer is the least of a set of names after the name, or the apex where none is after it
pub record LeastAfter (In : List ℕ → Type 0) (apex name answer : List ℕ) : Type 0 where
  pub member : In answer
  pub nearest : (SortsBefore name answer × ((u : List ℕ) → In u → SortsBefore name u → SortsBefore u answer → ⊥))
      ⊎ (((u : List ℕ) → In u → SortsBefore name u → ⊥) × (answer ≡ folded apex))

-- the answer is the greatest of a set of names before the name, or the last of the set where none is before it
pub record GreatestBefore (In : List ℕ → Type 0) (name answer : List ℕ) : Type 0 where
  pub member : In answer
  pub nearest : (SortsBefore answer name × ((u : List ℕ) → In u → SortsBefore answer u → SortsBefore u name → ⊥))
      ⊎ (((u : List ℕ) → In u → SortsBefore u name → ⊥) × ((u : List ℕ) → In u → SortsBefore answer u → ⊥))
