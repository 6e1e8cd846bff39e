-- The steps give the nearest members of the zone (`steps_next`, `steps_previous`), for every name at or under the apex that is no longer
-- than the limit. On members each undoes the other.
use mathlib.Core.Path.{◌≡◌, ap, ◌∙◌}
use mathlib.Core.List.{List, ◌++◌}
use mathlib.Core.Bool.{Bool}
use Prim.Native.Nat.{ℕ, ◌≤◌}
use native.Mathlib.Omega.{arith}
use lib.ListN.{length}
use Rattle.name.specs.Labels.{wire, Sizes}
use Rattle.order.proofs.Members.{Octet}
use Rattle.zone.specs.Zone.{size, AllSpelled, successor_of, predecessor_of, spare, Member, Next, Previous}
use Rattle.zone.specs.Steps.{successor_steps, predecessor_steps}
use Rattle.zone.proofs.Bridge.{wire_append}
use Rattle.zone.proofs.Zones.{successor_next, predecessor_previous, predecessor_successor, successor_predecessor}
use Rattle.zone.proofs.Steps.{successor_steps_lem, predecessor_steps_lem}

module _ (allowed : ℕ → Bool) (a : ℕ) (octet : Octet allowed a) (limit depth : ℕ) (apex : List (List ℕ))
    (fits : length (wire apex) ≤ limit) where
  module _ (ls : List (List ℕ)) (sizes : Sizes ls) (octets : AllSpelled allowed ls) (short : length (wire (ls ++ apex)) ≤ limit) where
    left : size ls ≤ spare limit apex
    left = omega (arith, wire_append ls apex)

    pub steps_next : Next allowed limit depth apex ls (successor_steps allowed (spare limit apex) depth ls)
    steps_next =
        rw (successor_steps_lem allowed a octet (spare limit apex) depth ls sizes octets left)
        (successor_next allowed limit depth apex fits ls)

    pub steps_previous : Previous allowed limit depth apex ls (predecessor_steps allowed (spare limit apex) depth ls)
    steps_previous =
        rw (predecessor_steps_lem allowed a octet (spare limit apex) depth ls sizes octets left)
        (predecessor_previous allowed limit depth apex fits ls)

  successor_member : (ls : List (List ℕ)) → Member allowed limit depth apex ls
      → successor_steps allowed (spare limit apex) depth ls ≡ successor_of allowed (spare limit apex) depth ls
  successor_member ls h =
      successor_steps_lem allowed a octet (spare limit apex) depth ls h.sizes h.octets
      (left ls h.sizes h.octets h.fits)

  predecessor_member : (ls : List (List ℕ)) → Member allowed limit depth apex ls
      → predecessor_steps allowed (spare limit apex) depth ls ≡ predecessor_of allowed (spare limit apex) depth ls
  predecessor_member ls h =
      predecessor_steps_lem allowed a octet (spare limit apex) depth ls h.sizes h.octets
      (left ls h.sizes h.octets h.fits)

  pub steps_predecessor_successor : (ls : List (List ℕ)) → Member allowed limit depth apex ls
      → predecessor_steps allowed (spare limit apex) depth (successor_steps allowed (spare limit apex) depth ls) ≡ ls
  steps_predecessor_successor ls h =
      ap (predecessor_steps allowed (spare limit apex) depth) (successor_member ls h)
      ∙ predecessor_member _ (successor_next allowed limit depth apex fits ls).member
      ∙ predecessor_successor allowed limit depth apex fits ls h

  pub steps_successor_predecessor : (ls : List (List ℕ)) → Member allowed limit depth apex ls
      → successor_steps allowed (spare limit apex) depth (predecessor_steps allowed (spare limit apex) depth ls) ≡ ls
  steps_successor_predecessor ls h =
      ap (successor_steps allowed (spare limit apex) depth) (predecessor_member ls h)
      ∙ successor_member _ (predecessor_previous allowed limit depth apex fits ls).member
      ∙ successor_predecessor allowed limit depth apex fits ls h
