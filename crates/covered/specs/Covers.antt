-- What a gap between two members of a zone covers. Names are their labels above the apex, leftmost first.
use Rattle.std.specs.Prelude.{◌≡◌, List, [], ◌⊎◌, Bool, ℕ}
use Rattle.zone.specs.Zone.{Precedes}

module _ (allowed : ℕ → Bool) (limit depth : ℕ) (apex : List (List ℕ)) where
  -- us is strictly between ps and ms on the ring of the zone: after ps, and before ms, or ms is the apex, where the ring begins anew
  abbrev pub Covers : List (List ℕ) → List (List ℕ) → List (List ℕ) → Type 0
  Covers ps ms us = Precedes allowed limit depth apex ps us × (Precedes allowed limit depth apex us ms ⊎ (ms ≡ []))
