-- The greatest valid completion at a place is what fill and top give (`fill_law`, `top_law`).
use mathlib.Core.Path.{sym, subst}
use mathlib.Core.List.{List, [], ◌∷◌}
use mathlib.Core.Logic.{inl, inr}
use mathlib.Core.Option.{Option, none, some}
use mathlib.Core.Bool.{Bool, true, false}
use Prim.Native.Nat.{ℕ, zero, suc, ◌<◌}
use native.Mathlib.Omega.{arith}
use lib.Dec.{T}
use Rattle.order.specs.Order.{◌⊏◌}
use Rattle.order.specs.Place.{Place, at, within, room, move, Valid}
use Rattle.order.proofs.Members.{Open, of_open}
use Rattle.zone.specs.Alphabet.{below}
use Rattle.zone.specs.Ring.{when, cap, fill, top}
use Rattle.zone.proofs.Octets.{Max, max_map, below_law}
use Rattle.zone.proofs.Nearest.{Greatest}
use Rattle.zone.proofs.Raise.{octet_of_lem}

module _ (allowed : ℕ → Bool) where
  -- a place has a completion where the symbol that closes its label still fits
  unfoldable pub Live : ℕ → Place → Type 0
  Live n (at d) = Unit {0}
  Live zero (within d r) = ⊥
  Live (suc n) (within d r) = Unit {0}

  live_octet : (n : ℕ) (q : Place) (o : ℕ) → T (room (suc n) q) → Live n (move q (suc o))
  unfolding Live
  live_octet zero q o t = absurd t
  live_octet (suc n) (at zero) o t = tt
  live_octet (suc n) (at (suc d)) o t = tt
  live_octet (suc n) (within d zero) o t = tt
  live_octet (suc n) (within d (suc r)) o t = tt

  pub live_suc : (n : ℕ) (q : Place) → Live (suc n) q
  unfolding Live
  live_suc n (at d) = tt
  live_suc n (within d r) = tt

  cap_law : (n : ℕ) (q : Place) → Max (λ p. Open allowed n q p) (cap allowed n q)
  unfolding cap
  cap_law n q = go (room n q) (λ t. t) (λ t. t) (below allowed 256) (below_law allowed 256)
    where
      go : (b : Bool) → (T b → T (room n q)) → (T (room n q) → T b) → (m : Option ℕ) → Max (λ p. (p < 256) × T (allowed p)) m
          → Max (λ p. Open allowed n q p) (when b m)
      go false f g m h = λ p l. g l.0
      go true f g m h = max_map _ _ m (λ p k. (f tt, k)) (λ p l. l.1) h

  -- the next octet of u, if one is next, has P
  unfoldable pub Heads : (ℕ → Type 0) → List ℕ → Type 0
  Heads P [] = Unit {0}
  Heads P (zero ∷ u) = Unit {0}
  Heads P (suc o ∷ u) = P o

  pub valid_heads : (n : ℕ) (q : Place) (u : List ℕ) → Valid allowed n q u → Heads (λ p. Open allowed n q p) u
  unfolding Heads
  valid_heads n q [] v = tt
  valid_heads n q (zero ∷ u) v = tt
  valid_heads n q (suc o ∷ u) v = octet_of_lem allowed n q o u v

  -- fill is the greatest of the completions whose next octet has P, if m is the greatest octet that has it.
  pub fill_law : (n : ℕ) (q : Place) (m : Option ℕ) (P : ℕ → Type 0) → Live n q → ((p : ℕ) → P p → Open allowed n q p) → Max P m
      → Valid allowed n q (fill allowed n q m) × ((u : List ℕ) → Valid allowed n q u → Heads P u → fill allowed n q m ⊏ u → ⊥)
  unfolding fill Heads Live
  fill_law zero (at d) m P l f h = (tt, go)
    where
      go : (u : List ℕ) → Valid allowed zero (at d) u → Heads P u → [] ⊏ u → ⊥
      go [] v k a = a
      go (y ∷ u) v k a = v
  fill_law zero (within d r) m P l f h = absurd l
  fill_law (suc n) q (some p) P l f h =
      go (fill_law n (move q (suc p)) (cap allowed n (move q (suc p))) (λ o. Open allowed n (move q (suc p)) o)
      (live_octet n q p (f p h.0).0) (λ o k. k) (cap_law n (move q (suc p))))
    where
      q' : Place
      q' = move q (suc p)

      t : List ℕ
      t = fill allowed n q' (cap allowed n q')

      go : Valid allowed n q' t × ((u : List ℕ) → Valid allowed n q' u → Heads (λ o. Open allowed n q' o) u → t ⊏ u → ⊥)
          → Valid allowed (suc n) q (suc p ∷ t) × ((u : List ℕ) → Valid allowed (suc n) q u → Heads P u → (suc p ∷ t) ⊏ u → ⊥)
      go ih = ((of_open allowed (suc n) q p (f p h.0), ih.0), above)
        where
          above : (u : List ℕ) → Valid allowed (suc n) q u → Heads P u → (suc p ∷ t) ⊏ u → ⊥
          above [] v k a = a
          above (zero ∷ u) v k (inl a) = omega arith
          above (zero ∷ u) v k (inr a) = omega arith
          above (suc o ∷ u) v k (inl a) = omega (arith, h.1 o k)
          above (suc o ∷ u) v k (inr a) =
              let w : Valid allowed n q' u = subst (λ (z : ℕ). Valid allowed n (move q z) u) (sym a.0) v.1 in
              ih.1 u w (valid_heads n q' u w) a.1
  fill_law (suc n) (at d) none P l f h = (tt, go)
    where
      go : (u : List ℕ) → Valid allowed (suc n) (at d) u → Heads P u → [] ⊏ u → ⊥
      go [] v k a = a
      go (zero ∷ u) v k a = v.0
      go (suc o ∷ u) v k a = h o k
  fill_law (suc n) (within d r) none P l f h =
      go (fill_law n (at d) (cap allowed n (at d)) (λ o. Open allowed n (at d) o) tt (λ o k. k) (cap_law n (at d)))
    where
      t : List ℕ
      t = fill allowed n (at d) (cap allowed n (at d))

      go : Valid allowed n (at d) t × ((u : List ℕ) → Valid allowed n (at d) u → Heads (λ o. Open allowed n (at d) o) u → t ⊏ u → ⊥)
          → Valid allowed (suc n) (within d r) (0 ∷ t)
          × ((u : List ℕ) → Valid allowed (suc n) (within d r) u → Heads P u → (0 ∷ t) ⊏ u → ⊥)
      go ih = ((tt, ih.0), above)
        where
          above : (u : List ℕ) → Valid allowed (suc n) (within d r) u → Heads P u → (0 ∷ t) ⊏ u → ⊥
          above [] v k a = a
          above (zero ∷ u) v k (inl a) = omega arith
          above (zero ∷ u) v k (inr a) = ih.1 u v.1 (valid_heads n (at d) u v.1) a.1
          above (suc o ∷ u) v k a = h o k

  pub top_law : (n d : ℕ) → Valid allowed n (at d) (top allowed n (at d)) × Greatest allowed n (at d) (top allowed n (at d))
  unfolding top Live
  top_law n d =
      let h = fill_law n (at d) (cap allowed n (at d)) (λ p. Open allowed n (at d) p) tt (λ p k. k) (cap_law n (at d)) in
      (h.0, λ u v a. h.1 u v (valid_heads n (at d) u v) a)
