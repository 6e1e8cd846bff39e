-- A name has one successor and one predecessor: whatever is next, or previous, is `successor_of` it, or `predecessor_of` it.
use mathlib.Core.Path.{◌≡◌, sym, ◌∙◌}
use mathlib.Core.List.{List, []}
use mathlib.Core.Logic.{◌⊎◌, inl, inr}
use mathlib.Core.Bool.{Bool}
use Prim.Native.Nat.{ℕ, ◌≤◌}
use lib.ListN.{length}
use Rattle.name.specs.Labels.{wire}
use Rattle.order.specs.Order.{Before}
use Rattle.order.proofs.Canonical.{before_total}
use Rattle.zone.specs.Zone.{successor_of, predecessor_of, spare, Precedes, NoneBetween, NoneBefore, NoneAfter, Next, Previous}
use Rattle.zone.proofs.Bridge.{before_tail}
use Rattle.zone.proofs.Zones.{successor_next, predecessor_previous}

module _ (allowed : ℕ → Bool) (limit depth : ℕ) (apex : List (List ℕ)) where
  next_equal : (ls ms us : List (List ℕ)) → Next allowed limit depth apex ls ms → Next allowed limit depth apex ls us → ms ≡ us
  next_equal ls ms us h k = go (before_total ms us) h.nearest k.nearest
    where
      go : Before ms us ⊎ ((ms ≡ us) ⊎ Before us ms)
          → (Precedes allowed limit depth apex ls ms × NoneBetween allowed limit depth apex ls ms)
          ⊎ (NoneAfter allowed limit depth apex ls × (ms ≡ []))
          → (Precedes allowed limit depth apex ls us × NoneBetween allowed limit depth apex ls us)
          ⊎ (NoneAfter allowed limit depth apex ls × (us ≡ []))
          → ms ≡ us
      go (inr (inl e)) a b = e
      go (inl c) (inl a) (inl b) = absurd (b.1 ms h.member a.0 (before_tail ms us apex c))
      go (inl c) (inl a) (inr b) = absurd (b.0 ms h.member a.0)
      go (inl c) (inr a) (inl b) = absurd (a.0 us k.member b.0)
      go (inl c) (inr a) (inr b) = a.1 ∙ sym b.1
      go (inr (inr c)) (inl a) (inl b) = absurd (a.1 us k.member b.0 (before_tail us ms apex c))
      go (inr (inr c)) (inl a) (inr b) = absurd (b.0 ms h.member a.0)
      go (inr (inr c)) (inr a) (inl b) = absurd (a.0 us k.member b.0)
      go (inr (inr c)) (inr a) (inr b) = a.1 ∙ sym b.1

  previous_equal : (ls ms us : List (List ℕ)) → Previous allowed limit depth apex ls ms → Previous allowed limit depth apex ls us → ms ≡ us
  previous_equal ls ms us h k = go (before_total ms us) h.nearest k.nearest
    where
      go : Before ms us ⊎ ((ms ≡ us) ⊎ Before us ms)
          → (Precedes allowed limit depth apex ms ls × NoneBetween allowed limit depth apex ms ls)
          ⊎ (NoneBefore allowed limit depth apex ls × NoneAfter allowed limit depth apex ms)
          → (Precedes allowed limit depth apex us ls × NoneBetween allowed limit depth apex us ls)
          ⊎ (NoneBefore allowed limit depth apex ls × NoneAfter allowed limit depth apex us)
          → ms ≡ us
      go (inr (inl e)) a b = e
      go (inl c) (inl a) (inl b) = absurd (a.1 us k.member (before_tail ms us apex c) b.0)
      go (inl c) (inl a) (inr b) = absurd (b.0 ms h.member a.0)
      go (inl c) (inr a) b = absurd (a.1 us k.member (before_tail ms us apex c))
      go (inr (inr c)) (inl a) (inl b) = absurd (b.1 ms h.member (before_tail us ms apex c) a.0)
      go (inr (inr c)) (inr a) (inl b) = absurd (a.0 us k.member b.0)
      go (inr (inr c)) a (inr b) = absurd (b.1 ms h.member (before_tail us ms apex c))

  module _ (fits : length (wire apex) ≤ limit) where
    pub next_only : (ls ms : List (List ℕ)) → Next allowed limit depth apex ls ms → ms ≡ successor_of allowed (spare limit apex) depth ls
    next_only ls ms h = next_equal ls ms _ h (successor_next allowed limit depth apex fits ls)

    pub previous_only : (ls ms : List (List ℕ)) → Previous allowed limit depth apex ls ms
        → ms ≡ predecessor_of allowed (spare limit apex) depth ls
    previous_only ls ms h = previous_equal ls ms _ h (predecessor_previous allowed limit depth apex fits ls)
