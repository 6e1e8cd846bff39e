-- In a zone whose apex is no longer than the limit, every name at or under the apex, a member or not, has the successor and the
-- predecessor that document 01 asks for (`successor_next`, `predecessor_previous`), and on members each undoes the other.
use mathlib.Core.Path.{◌≡◌, refl}
use mathlib.Core.List.{List, [], ◌∷◌}
use mathlib.Core.Logic.{inl, inr}
use mathlib.Core.Bool.{Bool}
use Prim.Native.Nat.{ℕ, ◌+◌, ◌≤◌}
use native.Mathlib.Omega.{arith}
use lib.ListN.{length}
use Rattle.name.specs.Labels.{wire}
use Rattle.order.specs.Sequence.{sequence, symbols}
use Rattle.order.specs.Place.{at}
use Rattle.order.proofs.Canonical.{sequence_labels, sequence_injective, before_under}
use Rattle.zone.specs.Ring.{successor, predecessor}
use Rattle.zone.specs.Zone.{successor_of, predecessor_of, spare, Member, Precedes, NoneBetween, NoneAfter, NoneBefore, Next, Previous}
use Rattle.zone.proofs.Nearest.{Cycle, Least}
use Rattle.zone.proofs.Nearest as nearest
use Rattle.zone.proofs.Neighbours
use Rattle.zone.proofs.Bridge.{wire_append, precedes_sequence, sequence_precedes, member_valid, valid_member}

module _ (allowed : ℕ → Bool) (limit depth : ℕ) (apex : List (List ℕ)) (fits : length (wire apex) ≤ limit) where
  -- ---- the apex

  -- the apex is before every other name at or under it
  pub apex_least : (ls : List (List ℕ)) → 1 ≤ length ls → Precedes allowed limit depth apex [] ls
  apex_least ls h = before_under ls apex h

  -- ---- the neighbours

  first_empty : (s : List ℕ) → Least allowed (spare limit apex) (at depth) s → s ≡ []
  first_empty [] h = refl
  first_empty (x ∷ s) h = absurd (h [] tt tt)

  -- what holds of the sequences of labels holds of the labels
  next_labels : (ls ms : List (List ℕ)) → nearest.Next allowed (spare limit apex) (at depth) (sequence ls) (sequence ms)
      → Precedes allowed limit depth apex ls ms × NoneBetween allowed limit depth apex ls ms
  next_labels ls ms h = (
    sequence_precedes allowed limit depth apex ls ms h.0,
    λ us u a b. h.1 (sequence us) (member_valid allowed limit depth apex us u) (precedes_sequence allowed limit depth apex ls us a)
        (precedes_sequence allowed limit depth apex us ms b),
  )

  last_labels_lem : (ls : List (List ℕ)) → nearest.Greatest allowed (spare limit apex) (at depth) (sequence ls)
      → NoneAfter allowed limit depth apex ls
  last_labels_lem ls h us u a =
      h (sequence us) (member_valid allowed limit depth apex us u) (precedes_sequence allowed limit depth apex ls us a)

  first_labels : (ls : List (List ℕ)) → Least allowed (spare limit apex) (at depth) (sequence ls) → NoneBefore allowed limit depth apex ls
  first_labels ls h us u a =
      h (sequence us) (member_valid allowed limit depth apex us u) (precedes_sequence allowed limit depth apex us ls a)

  pub cycle_next : (ls ms : List (List ℕ)) → Member allowed limit depth apex ms
      → Cycle allowed (spare limit apex) (at depth) (sequence ls) (sequence ms) → Next allowed limit depth apex ls ms
  unfolding symbols
  cycle_next ls ms m (inl h) = record { member = m; nearest = inl (next_labels ls ms h) }
  cycle_next ls ms m (inr h) =
      record { member = m; nearest = inr (last_labels_lem ls h.0, sequence_injective ms [] (first_empty (sequence ms) h.1)) }

  pub cycle_previous : (ls ms : List (List ℕ)) → Member allowed limit depth apex ms
      → Cycle allowed (spare limit apex) (at depth) (sequence ms) (sequence ls) → Previous allowed limit depth apex ls ms
  cycle_previous ls ms m (inl h) = record { member = m; nearest = inl (next_labels ms ls h) }
  cycle_previous ls ms m (inr h) = record { member = m; nearest = inr (first_labels ls h.1, last_labels_lem ms h.0) }

  -- the successor of any labels is a member, and next
  pub successor_next : (ls : List (List ℕ)) → Next allowed limit depth apex ls (successor_of allowed (spare limit apex) depth ls)
  unfolding successor_of
  successor_next ls =
      let h = Neighbours.successor_law allowed (spare limit apex) depth (sequence ls) in
      let m = valid_member allowed limit depth apex fits (successor allowed (spare limit apex) (at depth) (sequence ls)) h.0 in
      cycle_next ls _ m.1 (rw m.0 h.1)

  -- the predecessor of any labels is a member, and previous
  pub predecessor_previous : (ls : List (List ℕ))
      → Previous allowed limit depth apex ls (predecessor_of allowed (spare limit apex) depth ls)
  unfolding predecessor_of
  predecessor_previous ls =
      let h = Neighbours.predecessor_law allowed (spare limit apex) depth (sequence ls) in
      let m = valid_member allowed limit depth apex fits (predecessor allowed (spare limit apex) (at depth) (sequence ls)) h.0 in
      cycle_previous ls _ m.1 (rw m.0 h.1)

  -- where the limit leaves less than two octets, the zone is the apex alone, and it is its own neighbour
  pub apex_alone : limit ≤ length (wire apex) + 1 → (ls : List (List ℕ)) → Member allowed limit depth apex ls → ls ≡ []
  apex_alone h [] m = refl
  apex_alone h (l ∷ ls) m = absurd (omega (arith, wire_append (l ∷ ls) apex, m.fits, m.sizes.0))

  pub successor_alone : limit ≤ length (wire apex) + 1 → (ls : List (List ℕ)) → successor_of allowed (spare limit apex) depth ls ≡ []
  successor_alone h ls = apex_alone h _ (successor_next ls).member

  pub predecessor_alone : limit ≤ length (wire apex) + 1 → (ls : List (List ℕ)) → predecessor_of allowed (spare limit apex) depth ls ≡ []
  predecessor_alone h ls = apex_alone h _ (predecessor_previous ls).member

  -- ---- each undoes the other

  pub predecessor_successor : (ls : List (List ℕ)) → Member allowed limit depth apex ls
      → predecessor_of allowed (spare limit apex) depth (successor_of allowed (spare limit apex) depth ls) ≡ ls
  unfolding successor_of predecessor_of
  predecessor_successor ls h =
      let v = member_valid allowed limit depth apex ls h in
      let k = Neighbours.successor_law allowed (spare limit apex) depth (sequence ls) in
      let m = valid_member allowed limit depth apex fits (successor allowed (spare limit apex) (at depth) (sequence ls)) k.0 in
      rw (m.0, Neighbours.predecessor_successor allowed (spare limit apex) depth (sequence ls) v) (sequence_labels ls)

  pub successor_predecessor : (ls : List (List ℕ)) → Member allowed limit depth apex ls
      → successor_of allowed (spare limit apex) depth (predecessor_of allowed (spare limit apex) depth ls) ≡ ls
  unfolding successor_of predecessor_of
  successor_predecessor ls h =
      let v = member_valid allowed limit depth apex ls h in
      let k = Neighbours.predecessor_law allowed (spare limit apex) depth (sequence ls) in
      let m = valid_member allowed limit depth apex fits (predecessor allowed (spare limit apex) (at depth) (sequence ls)) k.0 in
      rw (m.0, Neighbours.successor_predecessor allowed (spare limit apex) depth (sequence ls) v) (sequence_labels ls)
