-- A name with more labels above the apex than the depth allows. The first labels of its sequence, those nearest the apex, as many as are
-- allowed, are its predecessor, and their successor is its own (`predecessor_cut`, `successor_cut`).
use mathlib.Core.Path.{◌≡◌, refl, sym, ap, subst}
use mathlib.Core.List.{List, [], ◌∷◌}
use mathlib.Core.Logic.{◌⊎◌, inl, inr}
use mathlib.Core.Bool.{Bool}
use Prim.Native.Nat.{ℕ, zero, suc, ◌≤◌}
use native.Mathlib.Omega.{arith}
use lib.Dec.{T}
use Rattle.order.specs.Order.{◌⊏◌}
use Rattle.order.specs.Place.{Place, at, within, move, legal, Valid}
use Rattle.order.proofs.Lexicographic.{lex_irreflexive, lex_transitive}
use Rattle.zone.specs.Ring.{successor, predecessor}
use Rattle.zone.proofs.Nearest.{Cycle, next_unique, previous_unique, nothing_below}
use Rattle.zone.proofs.Neighbours.{successor_law, predecessor_law}

-- the first d labels
unfoldable pub cut : ℕ → List ℕ → List ℕ
cut zero s = []
cut (suc d) [] = []
cut (suc d) (zero ∷ s) = 0 ∷ cut d s
cut (suc d) (suc o ∷ s) = suc o ∷ cut (suc d) s

-- s is not below its first labels.
pub cut_under : (d : ℕ) (s : List ℕ) → (cut d s ≡ s) ⊎ (cut d s ⊏ s)
unfolding cut
cut_under zero [] = inl refl
cut_under zero (x ∷ s) = inr tt
cut_under (suc d) [] = inl refl
cut_under (suc d) (zero ∷ s) = go (cut_under d s)
  where
    go : (cut d s ≡ s) ⊎ (cut d s ⊏ s) → ((0 ∷ cut d s) ≡ (0 ∷ s)) ⊎ ((0 ∷ cut d s) ⊏ (0 ∷ s))
    go (inl e) = inl (ap (λ (t : List ℕ). 0 ∷ t) e)
    go (inr h) = inr (inr (refl, h))
cut_under (suc d) (suc o ∷ s) = go (cut_under (suc d) s)
  where
    go : (cut (suc d) s ≡ s) ⊎ (cut (suc d) s ⊏ s) → ((suc o ∷ cut (suc d) s) ≡ (suc o ∷ s)) ⊎ ((suc o ∷ cut (suc d) s) ⊏ (suc o ∷ s))
    go (inl e) = inl (ap (λ (t : List ℕ). suc o ∷ t) e)
    go (inr h) = inr (inr (refl, h))

-- the labels that are left at a place, with the one in progress
left : Place → ℕ
left (at d) = d
left (within d r) = suc d

left_octet : (d r o : ℕ) → left (move (within d r) (suc o)) ≡ suc d
unfolding left
left_octet d zero o = refl
left_octet d (suc r) o = refl

module _ (allowed : ℕ → Bool) where
  no_label : (n y : ℕ) → T (legal allowed n (at 0) y) → ⊥
  no_label n zero h = h
  no_label zero (suc o) h = h
  no_label (suc zero) (suc o) h = h
  no_label (suc (suc n)) (suc o) h = h

  -- A member that is above the first labels of s is above s.
  cut_skip : (n : ℕ) (q : Place) (s u : List ℕ) → Valid allowed n q u → cut (left q) s ⊏ u → s ⊏ u
  unfolding cut left
  cut_skip n q [] [] v h = absurd (nothing_below (cut (left q) []) h)
  cut_skip n q (x ∷ s) [] v h = nothing_below (cut (left q) (x ∷ s)) h
  cut_skip n q [] (y ∷ u) v h = tt
  cut_skip zero q (x ∷ s) (y ∷ u) v h = absurd v
  cut_skip (suc n) (at zero) (x ∷ s) (y ∷ u) v h = absurd (no_label (suc n) y v.0)
  cut_skip (suc n) (at (suc d)) (zero ∷ s) (zero ∷ u) v h = absurd v.0
  cut_skip (suc n) (at (suc d)) (zero ∷ s) (suc p ∷ u) v h = inl (omega arith)
  cut_skip (suc n) (at (suc d)) (suc o ∷ s) (y ∷ u) v (inl h) = inl h
  cut_skip (suc n) (at (suc d)) (suc o ∷ s) (y ∷ u) v (inr h) = inr (h.0, cut_skip n (within d 62) s u v.1 h.1)
  cut_skip (suc n) (within d r) (zero ∷ s) (y ∷ u) v (inl h) = inl h
  cut_skip (suc n) (within d r) (zero ∷ s) (y ∷ u) v (inr h) =
      inr (h.0, cut_skip n (at d) s u (subst (λ (z : ℕ). Valid allowed n (move (within d r) z) u) (sym h.0) v.1) h.1)
  cut_skip (suc n) (within d r) (suc o ∷ s) (y ∷ u) v (inl h) = inl h
  cut_skip (suc n) (within d r) (suc o ∷ s) (y ∷ u) v (inr h) =
      inr (
        h.0,
        cut_skip n (move (within d r) (suc o)) s u
            (subst (λ (z : ℕ). Valid allowed n (move (within d r) z) u) (sym h.0) v.1)
            (rw left_octet h.1),
      )

  -- The first labels of a valid sequence are valid.
  mutual
    unfolding cut

    pub cut_valid : (s : List ℕ) (n d e : ℕ) → d ≤ e → Valid allowed n (at e) s → Valid allowed n (at d) (cut d s)
    cut_valid [] n zero e h v = tt
    cut_valid [] n (suc d) e h v = tt
    cut_valid (x ∷ s) n zero e h v = tt
    cut_valid (x ∷ s) zero (suc d) e h v = absurd v
    cut_valid (x ∷ s) (suc n) (suc d) zero h v = absurd (omega arith)
    cut_valid (zero ∷ s) (suc n) (suc d) (suc e) h v = absurd v.0
    cut_valid (suc o ∷ s) (suc zero) (suc d) (suc e) h v = absurd v.0
    cut_valid (suc o ∷ s) (suc (suc n)) (suc d) (suc e) h v = (v.0, cut_within s (suc n) d e 62 (omega arith) v.1)

    cut_within : (s : List ℕ) (n d e r : ℕ) → d ≤ e → Valid allowed n (within e r) s → Valid allowed n (within d r) (cut (suc d) s)
    cut_within [] n d e r h v = v
    cut_within (x ∷ s) zero d e r h v = absurd v
    cut_within (zero ∷ s) (suc n) d e r h v = (tt, cut_valid s n d e h v.1)
    cut_within (suc o ∷ s) (suc zero) d e r h v = absurd v.0
    cut_within (suc o ∷ s) (suc (suc n)) d e zero h v = absurd v.0
    cut_within (suc o ∷ s) (suc (suc n)) d e (suc r) h v = (v.0, cut_within s (suc n) d e r h v.1)

  -- The neighbours of a sequence t that need be no member. Its first labels are the greatest member that is not above it.
  pub nearest_below : (n d : ℕ) (t u : List ℕ) → Valid allowed n (at d) u → cut d t ⊏ u → t ⊏ u
  unfolding left
  nearest_below n d t u v h = cut_skip n (at d) t u v h

  -- And their successor is the least member above it, or the least of all where there is none above.
  pub nearest_above : (n d : ℕ) (t : List ℕ) → Cycle allowed n (at d) t (successor allowed n (at d) (cut d t))
  nearest_above n d t = go (successor_law allowed n d (cut d t)).0 (successor_law allowed n d (cut d t)).1
    where
      s : List ℕ
      s = successor allowed n (at d) (cut d t)

      up : (m u : List ℕ) → (m ≡ t) ⊎ (m ⊏ t) → t ⊏ u → m ⊏ u
      up m u (inl e) h = rw e h
      up m u (inr k) h = lex_transitive m t u k h

      go : Valid allowed n (at d) s → Cycle allowed n (at d) (cut d t) s → Cycle allowed n (at d) t s
      go v (inl h) = inl (nearest_below n d t s v h.0, λ u w a b. h.1 u w (up (cut d t) u (cut_under d t) a) b)
      go v (inr h) = inr (λ u w a. h.0 u w (up (cut d t) u (cut_under d t) a), h.1)

  -- So the successor of a sequence is that of its first labels.
  pub successor_cut : (n d : ℕ) (t : List ℕ) → successor allowed n (at d) t ≡ successor allowed n (at d) (cut d t)
  successor_cut n d t =
      next_unique allowed n (at d) t (successor allowed n (at d) t) (successor allowed n (at d) (cut d t)) (successor_law allowed n d t).0
      (successor_law allowed n d (cut d t)).0 (successor_law allowed n d t).1 (nearest_above n d t)

  -- The first labels of a longer sequence are before it, and no valid sequence is between.
  pub predecessor_cut : (n d : ℕ) (t : List ℕ) → Valid allowed n (at d) (cut d t) → (cut d t ≡ t → ⊥)
      → predecessor allowed n (at d) t ≡ cut d t
  predecessor_cut n d t v ne =
      previous_unique allowed n (at d) (predecessor allowed n (at d) t) (cut d t) t (predecessor_law allowed n d t).0 v
      (predecessor_law allowed n d t).1 (inl (go (cut_under d t), between))
    where
      go : (cut d t ≡ t) ⊎ (cut d t ⊏ t) → cut d t ⊏ t
      go (inl e) = absurd (ne e)
      go (inr h) = h

      between : (u : List ℕ) → Valid allowed n (at d) u → cut d t ⊏ u → u ⊏ t → ⊥
      between u w a b = lex_irreflexive t (lex_transitive t u t (nearest_below n d t u w a) b)
