-- Which octet of a label is raised on the way to the successor, and what is to be found of it.
use Rattle.std.specs.Prelude.{◌≡◌, List, [], ◌∷◌, ◌++◌, Bool, ◌&&◌, ℕ, zero, suc, ◌+◌, ◌-◌, ◌*◌, ◌≤◌, ◌<◌, ltb, length, get_or, replicate}
use Rattle.std.proofs.Math.Option.{Option, none, some}
use Rattle.space.specs.Fold.{lower_of}
use Rattle.space.specs.Private.Put.{folded_part}
use Rattle.zone.specs.Alphabet.{from}
use Rattle.zone.specs.Steps.{least, greatest}
use Rattle.alphabet.specs.Alphabets.{or_this}
use Rattle.checks.specs.Private.Climbs.{past}
use Rattle.plan.specs.declared.Plan.{Plan}
use Rattle.plan.specs.Private.Asked.{Plans, whole, changed_plan}

-- the label of s that begins at the index `first`, with the octet before its index k raised and those from k on dropped, folded; none where
-- k is 0
abbrev pub raised_before : (ℕ → Bool) → List ℕ → ℕ → ℕ → Option (List ℕ)
raised_before allowed s first zero = none
raised_before allowed s first (suc k) =
    let o = lower_of (get_or s (first + k) 0) in some (folded_part s first k ++ or_this (from allowed (suc o)) o ∷ [])

-- of the `count` octets of s from the index `first` on, those from the k-th on are g, folded
pub record Trailing (g : ℕ) (s : List ℕ) (first count k : ℕ) : Type 0 where
  pub within : k ≤ count
  pub is : folded_part s (first + k) (count - k) ≡ replicate (count - k) g

-- and the one before them is not
pub record LastOther (g : ℕ) (s : List ℕ) (first count k : ℕ) : Type 0 where
  pub trailing : Trailing g s first count k
  pub other : 0 < k → lower_of (get_or s (first + (k - 1)) 0) ≡ g → ⊥

-- the label that begins at the place `at` with the least octet at its end, or with its octet at an index raised and those after that
-- dropped
abbrev pub extended_plan : (ℕ → Bool) → List ℕ → ℕ → Plan
extended_plan allowed s at = changed_plan 0 (at + 1) (get_or s at 0) (least allowed) 0 (past s at)

abbrev pub raised_plan : (ℕ → Bool) → List ℕ → ℕ → ℕ → Plan
raised_plan allowed s at index =
    let o = lower_of (get_or s (at + 1 + index) 0) in changed_plan 0 (at + 1) index (or_this (from allowed (suc o)) o) 0 (past s at)

-- a climb that makes these octets of s finds r: the place of the label that changes, plus 256 times an index. At 0 the place is the apex's,
-- at 64 the label gets an octet more, and else the octet before this index is raised.
pub record Finds (allowed : ℕ → Bool) (s octets : List ℕ) (r : ℕ) : Type 0 where
  pub place : ℕ
  pub index : ℕ
  pub is : r ≡ place + 256 * index
  pub near : place < 256
  pub few : index ≤ 64
  pub apex : index ≡ 0 → Plans (greatest allowed) s octets (whole 0 place)
  pub within : 0 < index → past s place < length s
  pub longer : index ≡ 64 → Plans (greatest allowed) s octets (extended_plan allowed s place)
  pub higher : 0 < index → index < 64
      → (index - 1 < get_or s place 0) × Plans (greatest allowed) s octets (raised_plan allowed s place (index - 1))

-- of some octets that a climb makes
pub record Located (allowed : ℕ → Bool) (s : List ℕ) (r : ℕ) : Type 0 where
  pub octets : List ℕ
  pub finds : Finds allowed s octets r

-- a label above the apex begins at the place `at`, and it and the name have room for an octet more
abbrev pub can_extend : List ℕ → ℕ → ℕ → ℕ → Bool
can_extend s at cut limit = ltb at cut && (ltb (get_or s at 0) 63 && ltb (length s - at) limit)
