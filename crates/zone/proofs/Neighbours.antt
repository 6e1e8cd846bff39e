-- For any sequence, valid or not, the successor is the next valid one and the predecessor the previous one in the cycle of valid
-- sequences (`successor_law`, `predecessor_law`). On valid sequences each undoes the other.
use mathlib.Core.Path.{◌≡◌}
use mathlib.Core.List.{List, []}
use mathlib.Core.Logic.{inl, inr}
use mathlib.Core.Option.{Option, none, some}
use mathlib.Core.Bool.{Bool}
use Prim.Native.Nat.{ℕ}
use Rattle.order.specs.Place.{at, Valid}
use Rattle.zone.specs.Ring.{or_else, raise, successor, top, lower, predecessor}
use Rattle.zone.proofs.Nearest.{Cycle, nothing_below, next_unique, previous_unique}
use Rattle.zone.proofs.Raise.{Above, raise_law}
use Rattle.zone.proofs.Fill.{top_law}
use Rattle.zone.proofs.Lower.{Under, lower_law}

module _ (allowed : ℕ → Bool) where
  pub successor_law : (n d : ℕ) (s : List ℕ)
      → Valid allowed n (at d) (successor allowed n (at d) s) × Cycle allowed n (at d) s (successor allowed n (at d) s)
  unfolding successor Above
  successor_law n d s = go (raise allowed n (at d) s) (raise_law allowed n (at d) s)
    where
      go : (m : Option (List ℕ)) → Above allowed n (at d) s m
          → Valid allowed n (at d) (or_else m []) × Cycle allowed n (at d) s (or_else m [])
      go (some t) h = (h.0, inl h.1)
      go none h = (tt, inr (h, λ u w a. nothing_below u a))

  pub predecessor_law : (n d : ℕ) (s : List ℕ)
      → Valid allowed n (at d) (predecessor allowed n (at d) s) × Cycle allowed n (at d) (predecessor allowed n (at d) s) s
  unfolding predecessor Under
  predecessor_law n d s = go (lower allowed n (at d) s) (lower_law allowed n (at d) s)
    where
      go : (m : Option (List ℕ)) → Under allowed n (at d) s m
          → Valid allowed n (at d) (or_else m (top allowed n (at d))) × Cycle allowed n (at d) (or_else m (top allowed n (at d))) s
      go (some t) h = (h.0, inl h.1)
      go none h = ((top_law allowed n d).0, inr ((top_law allowed n d).1, h))

  pub predecessor_successor : (n d : ℕ) (s : List ℕ) → Valid allowed n (at d) s
      → predecessor allowed n (at d) (successor allowed n (at d) s) ≡ s
  predecessor_successor n d s v =
      let h = successor_law n d s in
      let k = predecessor_law n d (successor allowed n (at d) s) in
      previous_unique allowed n (at d) (predecessor allowed n (at d) (successor allowed n (at d) s)) s (successor allowed n (at d) s)
      k.0 v k.1 h.1

  pub successor_predecessor : (n d : ℕ) (s : List ℕ) → Valid allowed n (at d) s
      → successor allowed n (at d) (predecessor allowed n (at d) s) ≡ s
  successor_predecessor n d s v =
      let h = predecessor_law n d s in
      let k = successor_law n d (predecessor allowed n (at d) s) in
      next_unique allowed n (at d) (predecessor allowed n (at d) s) (successor allowed n (at d) (predecessor allowed n (at d) s)) s
      k.0 v k.1 h.1
