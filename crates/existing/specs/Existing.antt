-- Which names exist in a zone, and which of them encloses a query most closely (RFC 4592 sections 2.2.2 and 3.3.1): a name exists that has
-- records, and so does each name above it, an empty non-terminal where it has none itself.
use Rattle.std.specs.Prelude.{◌≡◌, true, ℕ, ◌≤◌, length, Ok}
use mathlib.Core.List.{List, Memᴰ}
use Rattle.name.specs.Wire.{reading_of}
use Rattle.checks.specs.Under.{is_under}

-- a name that exists in a zone of these names: one of them or an ancestor of one, at or under the apex, letter case aside
abbrev pub Exists : List ℕ → List (List ℕ) → List ℕ → Type 0
Exists apex names name =
    (reading_of name ≡ Ok tt) × (is_under apex name ≡ true) × ((owner : List ℕ) × Memᴰ owner names × (is_under name owner ≡ true))

-- the closest encloser of a query in a zone of these names: the longest ancestor of the query that exists
pub record IsClosest (apex : List ℕ) (names : List (List ℕ)) (query encloser : List ℕ) : Type 0 where
  pub exists : Exists apex names encloser
  pub encloses : is_under encloser query ≡ true
  pub longest : (other : List ℕ) → Exists apex names other → is_under other query ≡ true → length other ≤ length encloser
