-- What the gaps of a denial cover, as a resolver reads them: exactly the names of the zone at or under the next closer name of the query,
-- and those at or under the wildcard above its encloser. Where neither exists, nothing that exists is denied.
use Rattle.std.specs.Prelude.{◌≡◌, Bool, true, false, ◌||◌, ◌⊎◌, ◌↔◌, ℕ}
use mathlib.Core.List.{List, [], ◌∷◌, Memᴰ}
use Rattle.checks.specs.Under.{is_under}
use Rattle.neighbour.specs.Nearest.{InZone}
use Rattle.encloser.specs.Wildcard.{wildcard_name}
use Rattle.covering.specs.Between.{covers_of}
use Rattle.covering.specs.NextCloser.{next_closer_of}

-- the gap of the first two names covers it, or that of the next two
abbrev pub covered_by : List (List ℕ) → List ℕ → Bool
covered_by [] name = false
covered_by (owner ∷ []) name = false
covered_by (owner ∷ next ∷ names) name = covers_of owner next name || covered_by names name

-- owner and next name of one gap
pub record OneGap (names : List (List ℕ)) : Type 0 where
  pub owner : List ℕ
  pub next : List ℕ
  pub are : names ≡ owner ∷ next ∷ []

-- or of two, which are records of two owners
pub record TwoGaps (names : List (List ℕ)) : Type 0 where
  pub owner : List ℕ
  pub next : List ℕ
  pub other : List ℕ
  pub last : List ℕ
  pub are : names ≡ owner ∷ next ∷ other ∷ last ∷ []
  pub differ : owner ≡ other → ⊥

-- at or under neither of two names
pub record Neither (first second name : List ℕ) : Type 0 where
  pub not_first : is_under first name ≡ false
  pub not_second : is_under second name ≡ false

-- the names that deny a query
pub record DenialGaps (apex : List ℕ) (limit : ℕ) (encloser query : List ℕ) (names : List (List ℕ)) : Type 0 where
  pub one_or_two : OneGap names ⊎ TwoGaps names
  -- a name of the zone is covered where it is at or under the next closer name or the wildcard, and nowhere else
  pub covers : (u : List ℕ) → InZone apex limit u
      → (covered_by names u ≡ true) ↔ ((is_under (next_closer_of encloser query) u ≡ true) ⊎ (is_under (wildcard_name encloser) u ≡ true))
  -- the ends are names of the zone that are at or under neither
  pub ends : (end : List ℕ) → Memᴰ end names
      → InZone apex limit end × Neither (next_closer_of encloser query) (wildcard_name encloser) end
