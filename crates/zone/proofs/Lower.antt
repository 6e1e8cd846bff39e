-- The greatest valid sequence below any sequence is what lower gives, and none where there is none (`lower_law`).
use mathlib.Core.Path.{sym}
use mathlib.Core.List.{List, [], ◌∷◌}
use mathlib.Core.Logic.{inl, inr}
use mathlib.Core.Option.{Option, none, some}
use mathlib.Core.Bool.{Bool, true, false}
use Prim.Native.Nat.{ℕ, zero, suc, ◌<◌, min}
use native.Mathlib.Omega.{arith}
use lib.Dec.{T}
use Rattle.order.specs.Order.{◌⊏◌}
use Rattle.order.specs.Place.{Place, at, within, room, move, legal, Valid}
use Rattle.order.proofs.Members.{Open, open_of}
use Rattle.zone.specs.Alphabet.{below}
use Rattle.zone.specs.Ring.{prefer, when, fill, sink, lower}
use Rattle.zone.proofs.Octets.{Max, max_map, below_law}
use Rattle.zone.proofs.Nearest.{Least, Next, same_symbol, nothing_below, next_cons}
use Rattle.zone.proofs.Fill.{Heads, live_suc, fill_law}

module _ (allowed : ℕ → Bool) where
  -- what lower answers: the valid sequence next before s, or none where there is none
  unfoldable pub Under : ℕ → Place → List ℕ → Option (List ℕ) → Type 0
  Under n q s none = Least allowed n q s
  Under n q s (some t) = Valid allowed n q t × Next allowed n q t s

  fill_under : (n : ℕ) (q : Place) (o : ℕ) (s : List ℕ) (m : Option ℕ) → Max (λ p. Open allowed (suc n) q p × (p < o)) m
      → fill allowed (suc n) q m ⊏ (suc o ∷ s)
  unfolding fill
  fill_under n q o s (some p) h = inl (omega arith)
  fill_under n (at d) o s none h = tt
  fill_under n (within d r) o s none h = inl (omega arith)

  -- the greatest octet that fits below o
  under_law : (n : ℕ) (q : Place) (o : ℕ) → Max (λ p. Open allowed n q p × (p < o)) (when (room n q) (below allowed (min o 256)))
  under_law n q o = go (room n q) (λ t. t) (λ t. t) (below allowed (min o 256)) (below_law allowed (min o 256))
    where
      go : (b : Bool) → (T b → T (room n q)) → (T (room n q) → T b) → (m : Option ℕ) → Max (λ p. (p < min o 256) × T (allowed p)) m
          → Max (λ p. Open allowed n q p × (p < o)) (when b m)
      go false f g m h = λ p k. g k.0.0
      go true f g m h = max_map _ _ m (λ p k. ((f tt, (omega arith, k.1)), omega arith)) (λ p k. (omega arith, k.0.1.1)) h

  sink_law : (n : ℕ) (q : Place) (x : ℕ) (s : List ℕ) → (T (legal allowed (suc n) q x) → Least allowed n (move q x) s)
      → Under (suc n) q (x ∷ s) (sink allowed (suc n) q x)
  unfolding Under sink Heads
  sink_law n (at d) zero s h = (tt, (tt, go))
    where
      go : (u : List ℕ) → Valid allowed (suc n) (at d) u → [] ⊏ u → u ⊏ (0 ∷ s) → ⊥
      go [] w a b = a
      go (y ∷ u) w a (inl b) = omega arith
      go (y ∷ u) w a (inr b) = (same_symbol allowed n (at d) y 0 u (sym b.0) w).0
  sink_law n (within d r) zero s h = go
    where
      go : (u : List ℕ) → Valid allowed (suc n) (within d r) u → u ⊏ (0 ∷ s) → ⊥
      go [] w a = w
      go (y ∷ u) w (inl a) = omega arith
      go (y ∷ u) w (inr a) = h tt u (same_symbol allowed n (within d r) y 0 u (sym a.0) w).1 a.1
  sink_law n q (suc o) s h = (fits.0, (fill_under n q o s m (under_law (suc n) q o), go))
    where
      m : Option ℕ
      m = when (room (suc n) q) (below allowed (min o 256))

      fits : Valid allowed (suc n) q (fill allowed (suc n) q m)
          × ((u : List ℕ) → Valid allowed (suc n) q u → Heads allowed (λ p. Open allowed (suc n) q p × (p < o)) u
          → fill allowed (suc n) q m ⊏ u → ⊥)
      fits = fill_law allowed (suc n) q m (λ p. Open allowed (suc n) q p × (p < o)) (live_suc allowed n q) (λ p k. k.0)
          (under_law (suc n) q o)

      go : (u : List ℕ) → Valid allowed (suc n) q u → fill allowed (suc n) q m ⊏ u → u ⊏ (suc o ∷ s) → ⊥
      go [] w a b = nothing_below (fill allowed (suc n) q m) a
      go (zero ∷ u) w a b = fits.1 (zero ∷ u) w tt a
      go (suc p ∷ u) w a (inl b) = fits.1 (suc p ∷ u) w (open_of allowed (suc n) q p w.0, omega arith) a
      go (suc p ∷ u) w a (inr b) = let k = same_symbol allowed n q (suc p) (suc o) u (sym b.0) w in h k.0 u k.1 b.1

  pub lower_law : (n : ℕ) (q : Place) (s : List ℕ) → Under n q s (lower allowed n q s)
  unfolding lower Under
  lower_law n q [] = λ u w a. nothing_below u a
  lower_law zero (at d) (x ∷ s) = (tt, (tt, go))
    where
      go : (u : List ℕ) → Valid allowed zero (at d) u → [] ⊏ u → u ⊏ (x ∷ s) → ⊥
      go [] w a b = a
      go (y ∷ u) w a b = w
  lower_law zero (within d r) (x ∷ s) = go
    where
      go : (u : List ℕ) → Valid allowed zero (within d r) u → u ⊏ (x ∷ s) → ⊥
      go [] w a = w
      go (y ∷ u) w a = w
  lower_law (suc n) q (x ∷ s) = go (legal allowed (suc n) q x) (λ t. t) (λ t. t) (lower allowed n (move q x) s) (lower_law n (move q x) s)
    where
      go : (b : Bool) → (T b → T (legal allowed (suc n) q x)) → (T (legal allowed (suc n) q x) → T b) → (m : Option (List ℕ))
          → Under n (move q x) s m
          → Under (suc n) q (x ∷ s) (prefer x (when b m) (sink allowed (suc n) q x))
      go true f g (some t) h = ((f tt, h.0), next_cons allowed n q x t s h.1)
      go true f g none h = sink_law n q x s (λ l. h)
      go false f g m h = sink_law n q x s (λ l. absurd (g l))
