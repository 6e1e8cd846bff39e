-- The least valid sequence above any sequence is what raise gives, and none where there is none (`raise_law`).
use mathlib.Core.List.{List, [], ◌∷◌}
use mathlib.Core.Logic.{inl, inr}
use mathlib.Core.Option.{Option, none, some}
use mathlib.Core.Bool.{Bool, true, false}
use Prim.Native.Nat.{ℕ, zero, suc, ◌≤◌, ◌<◌}
use native.Mathlib.Omega.{arith}
use lib.Dec.{T}
use Rattle.order.specs.Order.{◌⊏◌}
use Rattle.order.specs.Place.{Place, at, within, room, move, legal, Valid}
use Rattle.order.proofs.Members.{Octet, Open, open_of, of_open}
use Rattle.zone.specs.Alphabet.{from}
use Rattle.zone.specs.Ring.{prefer, closing, when, lift, raise}
use Rattle.zone.proofs.Octets.{Min, from_law}
use Rattle.zone.proofs.Nearest.{Greatest, Next, same_symbol, nothing_below, next_cons}

module _ (allowed : ℕ → Bool) where
  -- What a sequence can go on with.
  pub octet_of_lem : (n : ℕ) (q : Place) (o : ℕ) (s : List ℕ) → Valid allowed n q (suc o ∷ s) → Open allowed n q o
  octet_of_lem zero q o s v = absurd v
  octet_of_lem (suc n) q o s v = open_of allowed (suc n) q o v.0

  first_octet : (n d y : ℕ) (s : List ℕ) → Valid allowed n (at d) (y ∷ s) → 0 < y
  first_octet zero d y s v = absurd v
  first_octet (suc n) d zero s v = absurd v.0
  first_octet (suc n) d (suc o) s v = omega arith

  one_octet : (n : ℕ) (q : Place) (o : ℕ) → T (room n q) → Octet allowed o → Valid allowed n q (suc o ∷ 0 ∷ [])
  one_octet zero q o t h = absurd t
  one_octet (suc zero) q o t h = absurd t
  one_octet (suc (suc n)) (at zero) o t h = absurd t
  one_octet (suc (suc n)) (at (suc d)) o t h = (of_open allowed (suc (suc n)) (at (suc d)) o (t, h), (tt, tt))
  one_octet (suc (suc n)) (within d zero) o t h = absurd t
  one_octet (suc (suc n)) (within d (suc r)) o t h = (of_open allowed (suc (suc n)) (within d (suc r)) o (t, h), (tt, tt))

  left_open : (n : ℕ) (q : Place) (o : ℕ) → Valid allowed n q (suc o ∷ []) → ⊥
  left_open zero q o v = v
  left_open (suc zero) q o v = v.0
  left_open (suc (suc n)) (at zero) o v = v.0
  left_open (suc (suc n)) (at (suc d)) o v = v.1
  left_open (suc (suc n)) (within d zero) o v = v.0
  left_open (suc (suc n)) (within d (suc r)) o v = v.1

  -- A symbol raised: the least sequence that goes on with a symbol above x.
  Starts : ℕ → List ℕ → Type 0
  Starts x [] = ⊥
  Starts x (y ∷ s) = x < y

  Lifted : ℕ → Place → ℕ → Option (List ℕ) → Type 0
  Lifted n q x none = (u : List ℕ) → Valid allowed n q u → Starts x u → ⊥
  Lifted n q x (some t) = Valid allowed n q t × Starts x t × ((u : List ℕ) → Valid allowed n q u → Starts x u → u ⊏ t → ⊥)

  lift_law : (n : ℕ) (q : Place) (x : ℕ) → Lifted n q x (lift allowed n q x)
  unfolding Lifted Starts
  lift_law n q x = go (room n q) (λ t. t) (λ t. t) (from allowed x) (from_law allowed x)
    where
      least : (o : ℕ) → Min (λ p. (x ≤ p) × Octet allowed p) (some o) → (u : List ℕ) → Valid allowed n q u → Starts x u
          → u ⊏ (suc o ∷ 0 ∷ []) → ⊥
      least o h [] v a b = a
      least o h (zero ∷ s) v a b = omega arith
      least o h (suc p ∷ s) v a (inl b) = omega (arith, h.1 p (omega arith, (octet_of_lem n q p s v).1))
      least o h (suc p ∷ []) v a (inr b) = left_open n q p v
      least o h (suc p ∷ z ∷ s) v a (inr (e, inl b)) = omega arith
      least o h (suc p ∷ z ∷ []) v a (inr (e, inr b)) = b.1
      least o h (suc p ∷ z ∷ w ∷ s) v a (inr (e, inr b)) = b.1

      unable : ((o : ℕ) → Open allowed n q o → x ≤ o → ⊥) → (u : List ℕ) → Valid allowed n q u → Starts x u → ⊥
      unable h [] v a = a
      unable h (zero ∷ s) v a = omega arith
      unable h (suc o ∷ s) v a = h o (octet_of_lem n q o s v) (omega arith)

      go : (b : Bool) → (T b → T (room n q)) → (T (room n q) → T b) → (m : Option ℕ) → Min (λ p. (x ≤ p) × Octet allowed p) m
          → Lifted n q x (closing b m)
      go false f g m h = unable (λ o l a. g l.0)
      go true f g none h = unable (λ o l a. h o (a, l.1))
      go true f g (some o) h = (one_octet n q o (f tt) h.0.1, omega arith, least o h)

  -- what raise answers: the next valid sequence after s, or none where there is none
  unfoldable pub Above : ℕ → Place → List ℕ → Option (List ℕ) → Type 0
  Above n q s none = Greatest allowed n q s
  Above n q s (some t) = Valid allowed n q t × Next allowed n q s t

  lifted_above : (n : ℕ) (q : Place) (x : ℕ) (s : List ℕ) (m : Option (List ℕ)) → Lifted n q x m
      → ((t : List ℕ) → Starts x t → s ⊏ t) → ((u : List ℕ) → Valid allowed n q u → s ⊏ u → Starts x u) → Above n q s m
  unfolding Above Lifted
  lifted_above n q x s none h f g = λ u v a. h u v (g u v a)
  lifted_above n q x s (some t) h f g = (h.0, (f t h.1, λ u v a b. h.2 u v (g u v a) b))

  pub raise_law : (n : ℕ) (q : Place) (s : List ℕ) → Above n q s (raise allowed n q s)
  unfolding raise Above Starts
  raise_law n (at d) [] = lifted_above n (at d) 0 [] (lift allowed n (at d) 0) (lift_law n (at d) 0) longer next_octet
    where
      longer : (t : List ℕ) → Starts 0 t → [] ⊏ t
      longer [] h = h
      longer (x ∷ t) h = tt

      next_octet : (u : List ℕ) → Valid allowed n (at d) u → [] ⊏ u → Starts 0 u
      next_octet [] v a = a
      next_octet (y ∷ u) v a = first_octet n d y u v
  raise_law zero (within d r) [] = λ u v a. nothing u v
    where
      nothing : (u : List ℕ) → Valid allowed zero (within d r) u → ⊥
      nothing [] v = v
      nothing (x ∷ u) v = v
  raise_law (suc n) (within d r) [] = ((tt, tt), (tt, go))
    where
      go : (u : List ℕ) → Valid allowed (suc n) (within d r) u → [] ⊏ u → u ⊏ (0 ∷ []) → ⊥
      go [] v a b = a
      go (y ∷ u) v a (inl b) = omega arith
      go (y ∷ u) v a (inr b) = nothing_below u b.1
  raise_law zero q (x ∷ s) = go
    where
      go : (u : List ℕ) → Valid allowed zero q u → (x ∷ s) ⊏ u → ⊥
      go [] v a = a
      go (y ∷ u) v a = v
  raise_law (suc n) q (x ∷ s) = go (legal allowed (suc n) q x) (λ t. t) (λ t. t) (raise allowed n (move q x) s) (raise_law n (move q x) s)
    where
      greater : (t : List ℕ) → Starts x t → (x ∷ s) ⊏ t
      greater [] h = h
      greater (y ∷ t) h = inl h

      here : (T (legal allowed (suc n) q x) → Greatest allowed n (move q x) s) → (u : List ℕ) → Valid allowed (suc n) q u → (x ∷ s) ⊏ u
          → Starts x u
      here h [] v a = a
      here h (y ∷ u) v (inl a) = a
      here h (y ∷ u) v (inr a) = let w = same_symbol allowed n q y x u a.0 v in absurd (h w.0 u w.1 a.1)

      go : (b : Bool) → (T b → T (legal allowed (suc n) q x)) → (T (legal allowed (suc n) q x) → T b) → (m : Option (List ℕ))
          → Above n (move q x) s m
          → Above (suc n) q (x ∷ s) (prefer x (when b m) (lift allowed (suc n) q x))
      go true f g (some t) h = ((f tt, h.0), next_cons allowed n q x s t h.1)
      go true f g none h = lifted_above (suc n) q x (x ∷ s) (lift allowed (suc n) q x) (lift_law (suc n) q x) greater (here (λ l. h))
      go false f g m h =
          lifted_above (suc n) q x (x ∷ s) (lift allowed (suc n) q x) (lift_law (suc n) q x) greater (here (λ l. absurd (g l)))
