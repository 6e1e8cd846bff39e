-- What it is that a gap covers and what a next closer name is, as statements over names: by the canonical order, and by ancestors.
use Rattle.std.specs.Prelude.{◌≡◌, List, [], true, ◌⊎◌, ◌↔◌, ℕ, ◌+◌, ◌<◌, length, Ok}
use Rattle.name.specs.Wire.{reading_of}
use Rattle.name.specs.Labels.{labels_of}
use Rattle.order.specs.Order.{SortsBefore}
use Rattle.checks.specs.Under.{is_under}
use Rattle.encloser.specs.Encloser.{end}
use Rattle.covering.specs.Between.{covers_of}
use Rattle.covering.specs.NextCloser.{next_closer_of}

-- the name lies strictly between the owner and the next name, on the ring where the next name is not after the owner
pub record Covered (owner next name : List ℕ) : Type 0 where
  pub whole_owner : reading_of owner ≡ Ok tt
  pub whole_next : reading_of next ≡ Ok tt
  pub whole_name : reading_of name ≡ Ok tt
  pub between : SortsBefore owner next → SortsBefore owner name × SortsBefore name next
  pub around : (SortsBefore owner next → ⊥) → SortsBefore owner name ⊎ SortsBefore name next

-- the encloser is a proper ancestor of the query
pub record Proper (encloser query : List ℕ) : Type 0 where
  pub whole_encloser : reading_of encloser ≡ Ok tt
  pub whole_query : reading_of query ≡ Ok tt
  pub under : is_under encloser query ≡ true
  pub more : length (labels_of encloser) < length (labels_of query)

-- the answer is a name, the end of the query, at or above it and under the encloser with one label more
pub record NextCloser (encloser query answer : List ℕ) : Type 0 where
  pub whole : reading_of answer ≡ Ok tt
  pub part : end (length answer) query ≡ answer
  pub above_query : is_under answer query ≡ true
  pub under_encloser : is_under encloser answer ≡ true
  pub one_more : length (labels_of answer) ≡ length (labels_of encloser) + 1

pub record Denials : Type 0 where
  pub covered : (owner next name : List ℕ) → (covers_of owner next name ≡ true) ↔ Covered owner next name
  pub next_closer : (encloser query : List ℕ) → Proper encloser query → NextCloser encloser query (next_closer_of encloser query)
  pub no_closer : (encloser query : List ℕ) → (Proper encloser query → ⊥) → next_closer_of encloser query ≡ []
