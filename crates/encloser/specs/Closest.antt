-- What the closest encloser of a query is (document 02, request Seven), as statements over names: the gap by the canonical order, the
-- ancestors by their labels, and that what is handed back is the longest of these, and empty exactly outside of the gap.
use Rattle.std.specs.Prelude.{◌≡◌, List, true, ◌⊎◌, ℕ, ◌≤◌, length, Ok}
use Rattle.name.specs.Wire.{reading_of}
use Rattle.space.specs.Fold.{folded}
use Rattle.order.specs.Order.{SortsBefore}
use Rattle.checks.specs.Under.{is_under}
use Rattle.encloser.specs.declared.Encloser.TheVariants.{OfOwner, OfNext}
use Rattle.encloser.specs.Encloser.{encloser_of, closest_of}

-- the query lies strictly between the owner and the next name, or in the last gap, where the next name is not after the owner
pub record InGap (query owner next : List ℕ) : Type 0 where
  pub whole_query : reading_of query ≡ Ok tt
  pub whole_owner : reading_of owner ≡ Ok tt
  pub whole_next : reading_of next ≡ Ok tt
  pub after_owner : SortsBefore owner query
  pub before_next : SortsBefore owner next → SortsBefore query next
  pub last : (SortsBefore owner next → ⊥) → (is_under next owner ≡ true) × (is_under next query ≡ true)

-- a name that both are at or under, letter case aside
pub record Shared (ancestor query name : List ℕ) : Type 0 where
  pub whole : reading_of ancestor ≡ Ok tt
  pub of_query_lem : is_under ancestor query ≡ true
  pub of_name : is_under ancestor name ≡ true

-- the answer is shared with one end of the gap, nothing longer is with either, and it has an octet at least
pub record Closest (query owner next answer : List ℕ) : Type 0 where
  pub is_shared : Shared answer query owner ⊎ Shared answer query next
  pub longest : (other : List ℕ) → Shared other query owner ⊎ Shared other query next → length other ≤ length answer
  pub some : 1 ≤ length answer

-- the closest encloser of every query
pub record ClosestEnclosers : Type 0 where
  -- in its gap, and the empty part of the owner otherwise
  pub in_gap : (query owner next : List ℕ) → InGap query owner next → Closest query owner next (closest_of query owner next)
  pub outside : (query owner next : List ℕ) → (InGap query owner next → ⊥) → encloser_of query owner next ≡ OfOwner 0
  -- so it is empty outside of the gap alone
  pub empty : (query owner next : List ℕ) → length (closest_of query owner next) ≡ 0 → InGap query owner next → ⊥
  -- of a query under the owner it is the owner, unless the next name is under the owner too
  pub under_owner : (query owner next : List ℕ) → InGap query owner next → is_under owner query ≡ true
      → (SortsBefore owner next → is_under owner next ≡ true → ⊥)
      → (encloser_of query owner next ≡ OfOwner (length owner)) × (closest_of query owner next ≡ owner)
  -- of a query that the next name is under, an empty non-terminal, it is the query, as the next name spells it
  pub next_under : (query owner next : List ℕ) → InGap query owner next → is_under query next ≡ true
      → (encloser_of query owner next ≡ OfNext (length query)) × (folded (closest_of query owner next) ≡ folded query)
