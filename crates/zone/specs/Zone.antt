-- The zone of an apex: its members and the neighbours of a name among them (document 01, "The zone", "Absolute neighbours", "Modified
-- neighbours"), over an alphabet, a limit on the wire length and a depth, the number of labels allowed above the apex. A name is its
-- labels above the apex, leftmost first; [] is the apex itself. With a depth of 127 it is document 01's zone, with a depth of 1 its
-- short set.
use Rattle.std.specs.Prelude.{◌≡◌, List, [], ◌∷◌, ◌++◌, reverse, ◌⊎◌, Bool, ℕ, zero, suc, ◌+◌, ◌-◌, ◌≤◌, ◌<◌, length, T}
use Rattle.name.specs.Labels.{wire, Sizes}
use Rattle.order.specs.Order.{Before}
use Rattle.order.specs.Sequence.{sequence, labels}
use Rattle.order.specs.Place.{at}
use Rattle.zone.specs.Ring.{successor, predecessor}

-- the octets that labels take on the wire
abbrev pub size : List (List ℕ) → ℕ
size [] = 0
size (l ∷ ls) = 1 + length l + size ls

module _ (allowed : ℕ → Bool) where
  -- every octet of a label is one of the alphabet
  abbrev pub Spelled : List ℕ → Type 0
  Spelled [] = Unit {0}
  Spelled (o ∷ l) = (o < 256) × T (allowed o) × Spelled l

  abbrev pub AllSpelled : List (List ℕ) → Type 0
  AllSpelled [] = Unit {0}
  AllSpelled (l ∷ ls) = Spelled l × AllSpelled ls

  -- the successor and the predecessor of labels, where n octets and d labels are allowed above the apex
  unfoldable pub successor_of : ℕ → ℕ → List (List ℕ) → List (List ℕ)
  successor_of n d ls = reverse (labels (successor allowed n (at d) (sequence ls)))

  unfoldable pub predecessor_of : ℕ → ℕ → List (List ℕ) → List (List ℕ)
  predecessor_of n d ls = reverse (labels (predecessor allowed n (at d) (sequence ls)))

  -- the successor, k times over
  unfoldable pub successor_times : ℕ → ℕ → ℕ → List (List ℕ) → List (List ℕ)
  successor_times n d zero ls = ls
  successor_times n d (suc k) ls = successor_times n d k (successor_of n d ls)

-- the octets that the limit leaves above the apex
abbrev pub spare : ℕ → List (List ℕ) → ℕ
spare limit apex = limit - length (wire apex)

module _ (allowed : ℕ → Bool) (limit depth : ℕ) (apex : List (List ℕ)) where
  -- the labels above the apex of a name of the zone
  pub record Member (ls : List (List ℕ)) : Type 0 where
    pub sizes : Sizes ls
    pub octets : AllSpelled allowed ls
    pub few : length ls ≤ depth
    pub fits : length (wire (ls ++ apex)) ≤ limit

  -- the canonical order of the whole names
  abbrev pub Precedes : List (List ℕ) → List (List ℕ) → Type 0
  Precedes ls ms = Before (ls ++ apex) (ms ++ apex)

  abbrev pub NoneBetween : List (List ℕ) → List (List ℕ) → Type 0
  NoneBetween ls ms = (us : List (List ℕ)) → Member us → Precedes ls us → Precedes us ms → ⊥

  abbrev pub NoneBefore : List (List ℕ) → Type 0
  NoneBefore ls = (us : List (List ℕ)) → Member us → Precedes us ls → ⊥

  abbrev pub NoneAfter : List (List ℕ) → Type 0
  NoneAfter ls = (us : List (List ℕ)) → Member us → Precedes ls us → ⊥

  -- ms is the least member after ls, or the apex where no member is after ls
  pub record Next (ls ms : List (List ℕ)) : Type 0 where
    pub member : Member ms
    pub nearest : (Precedes ls ms × NoneBetween ls ms) ⊎ (NoneAfter ls × (ms ≡ []))

  -- ms is the greatest member before ls, or the last member where no member is before ls
  pub record Previous (ls ms : List (List ℕ)) : Type 0 where
    pub member : Member ms
    pub nearest : (Precedes ms ls × NoneBetween ms ls) ⊎ (NoneBefore ls × NoneAfter ms)
