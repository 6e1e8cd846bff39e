-- Every name gets its turn (request Fourteen of document 02): from any member of a zone the successor, taken often enough, comes to any
-- member (`turns_reach`), and none comes twice before the start comes again (`turns_return`).
use mathlib.Core.Path.{◌≡◌, refl, sym, ap, ◌∙◌}
use mathlib.Core.List.{List}
use mathlib.Core.Bool.{Bool}
use Prim.Native.Nat.{ℕ, zero, suc, ◌+◌}
use Rattle.order.specs.Sequence.{sequence}
use Rattle.order.specs.Place.{at}
use Rattle.order.proofs.Canonical.{sequence_injective}
use Rattle.zone.specs.Ring.{successor}
use Rattle.zone.specs.Zone.{successor_of, successor_times, spare, Member}
use Rattle.zone.proofs.Neighbours.{successor_law}
use Rattle.zone.proofs.Bridge.{valid_labels, member_valid}
use Rattle.zone.proofs.Reach.{times, reach, times_return}

module _ (allowed : ℕ → Bool) where
  successor_sequence : (n d : ℕ) (ls : List (List ℕ)) → sequence (successor_of allowed n d ls) ≡ successor allowed n (at d) (sequence ls)
  unfolding successor_of
  successor_sequence n d ls =
      (valid_labels allowed n d (successor allowed n (at d) (sequence ls)) (successor_law allowed n d (sequence ls)).0).back

  turns_sequence : (n d k : ℕ) (ls : List (List ℕ)) → sequence (successor_times allowed n d k ls) ≡ times allowed n d k (sequence ls)
  unfolding successor_times times
  turns_sequence n d zero ls = refl
  turns_sequence n d (suc k) ls =
      turns_sequence n d k (successor_of allowed n d ls) ∙ ap (times allowed n d k) (successor_sequence n d ls)

  module _ (limit depth : ℕ) (apex : List (List ℕ)) where
    pub turns_reach : (ls ms : List (List ℕ)) → Member allowed limit depth apex ls → Member allowed limit depth apex ms
        → (k : ℕ) × (successor_times allowed (spare limit apex) depth k ls ≡ ms)
    turns_reach ls ms h g =
        let r =
        reach allowed (spare limit apex) depth (sequence ls) (sequence ms) (member_valid allowed limit depth apex ls h)
        (member_valid allowed limit depth apex ms g) in (
          r.0,
          sequence_injective (successor_times allowed (spare limit apex) depth r.0 ls) ms
              (turns_sequence (spare limit apex) depth r.0 ls ∙ r.1),
        )

    pub turns_return : (j k : ℕ) (ls : List (List ℕ)) → Member allowed limit depth apex ls
        → successor_times allowed (spare limit apex) depth (j + k) ls ≡ successor_times allowed (spare limit apex) depth j ls
        → successor_times allowed (spare limit apex) depth k ls ≡ ls
    turns_return j k ls h e =
        sequence_injective (successor_times allowed (spare limit apex) depth k ls) ls
        (turns_sequence (spare limit apex) depth k ls
        ∙ times_return allowed (spare limit apex) depth j k (sequence ls) (member_valid allowed limit depth apex ls h)
        (sym (turns_sequence (spare limit apex) depth (j + k) ls) ∙ ap sequence e ∙ turns_sequence (spare limit apex) depth j ls))
