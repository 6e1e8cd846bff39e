-- The members at or under a name of a zone, and the first member past them. A name is its labels above the apex, leftmost first; [] is the
-- apex itself. What is after a name and not under it is past it.
use Rattle.std.specs.Prelude.{◌≡◌, List, [], ◌++◌, ◌⊎◌, Bool, ℕ}
use Rattle.zone.specs.Zone.{Member, Precedes}

-- us is ls, or ls with labels in front
abbrev pub AtOrUnder : List (List ℕ) → List (List ℕ) → Type 0
AtOrUnder ls us = (vs : List (List ℕ)) × (us ≡ vs ++ ls)

module _ (allowed : ℕ → Bool) (limit depth : ℕ) (apex : List (List ℕ)) where
  -- us is after ls, and not under it
  pub record Past (ls us : List (List ℕ)) : Type 0 where
    pub after : Precedes allowed limit depth apex ls us
    pub outside : AtOrUnder ls us → ⊥

  -- no member is past ls
  abbrev pub NonePast : List (List ℕ) → Type 0
  NonePast ls = (us : List (List ℕ)) → Member allowed limit depth apex us → Past ls us → ⊥

  -- none that is before ms
  abbrev pub NonePastBefore : List (List ℕ) → List (List ℕ) → Type 0
  NonePastBefore ls ms =
      (us : List (List ℕ)) → Member allowed limit depth apex us → Past ls us → Precedes allowed limit depth apex us ms → ⊥

  -- ms is the least member past ls, or the apex where there is none
  pub record NextPast (ls ms : List (List ℕ)) : Type 0 where
    pub member : Member allowed limit depth apex ms
    pub nearest : (Past ls ms × NonePastBefore ls ms) ⊎ (NonePast ls × (ms ≡ []))
