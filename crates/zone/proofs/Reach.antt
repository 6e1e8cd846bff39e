-- Every valid sequence gets its turn: from any of them the successor, taken often enough, comes to any other (`reach`), and none comes
-- twice before the start comes again (`times_return`).
use mathlib.Core.Path.{◌≡◌, refl, sym, ap, ◌∙◌}
use mathlib.Core.List.{List, [], ◌∷◌}
use mathlib.Core.Logic.{◌⊎◌, inl, inr}
use mathlib.Core.Bool.{Bool}
use Prim.Native.Nat.{ℕ, zero, suc, ◌+◌, ◌*◌, ◌≤◌, ◌<◌}
use native.Mathlib.Nat.{suc-add, zero-add}
use native.Mathlib.Omega.{arith}
use lib.Dec.{T}
use lib.Arith.{digits_lt}
use Rattle.order.specs.Order.{◌⊏◌}
use Rattle.order.specs.Place.{Place, at, move, legal, Valid}
use Rattle.order.proofs.Lexicographic.{lex_total}
use Rattle.order.proofs.Members.{open_of}
use Rattle.zone.specs.Ring.{successor, predecessor, top}
use Rattle.zone.proofs.Nearest.{Next, Cycle, nothing_below}
use Rattle.zone.proofs.Fill.{top_law}
use Rattle.zone.proofs.Neighbours.{successor_law, predecessor_successor}

-- A sequence of at most n symbols as a number, which grows with the order.
weight : ℕ → ℕ
weight zero = 1
weight (suc n) = 1 + 257 * weight n

rank : ℕ → List ℕ → ℕ
rank zero s = 0
rank (suc n) [] = 0
rank (suc n) (x ∷ s) = 1 + (x * weight n + rank n s)

-- a digit's part is below the next digit's
module _ (allowed : ℕ → Bool) where
  small : (n : ℕ) (q : Place) (x : ℕ) → T (legal allowed n q x) → x < 257
  small n q zero h = omega arith
  small n q (suc o) h = omega (arith, (open_of allowed n q o h).1.0)

  rank_small : (n : ℕ) (q : Place) (s : List ℕ) → Valid allowed n q s → rank n s < weight n
  unfolding rank weight
  rank_small zero q s v = omega arith
  rank_small (suc n) q [] v = omega arith
  rank_small (suc n) q (x ∷ s) v =
      omega (arith, digits_lt {c = weight n} (small (suc n) q x v.0) (rank_small n (move q x) s v.1))

  rank_grows : (n : ℕ) (q p : Place) (s t : List ℕ) → Valid allowed n q s → Valid allowed n p t → s ⊏ t → rank n s < rank n t
  unfolding rank
  rank_grows n q p [] [] v w h = absurd h
  rank_grows n q p (x ∷ s) [] v w h = absurd h
  rank_grows zero q p [] (y ∷ t) v w h = absurd w
  rank_grows (suc n) q p [] (y ∷ t) v w h = omega arith
  rank_grows zero q p (x ∷ s) (y ∷ t) v w h = absurd w
  rank_grows (suc n) q p (x ∷ s) (y ∷ t) v w (inl h) =
      omega (arith, digits_lt h (rank_small n (move q x) s v.1))
  rank_grows (suc n) q p (x ∷ s) (y ∷ t) v w (inr h) =
      omega (arith, rank_grows n (move q x) (move p y) s t v.1 w.1 h.1, ap (λ (z : ℕ). z * weight n) h.0)

  module _ (n d : ℕ) where
    -- the successor, k times
    unfoldable pub times : ℕ → List ℕ → List ℕ
    times zero s = s
    times (suc k) s = times k (successor allowed n (at d) s)

    abbrev pub Reach : List ℕ → List ℕ → Type 0
    Reach s t = (k : ℕ) × (times k s ≡ t)

    -- Where t is not below s, the steps go up to it: each raises the number, and none passes over t.
    climb : (f : ℕ) (s t : List ℕ) → Valid allowed n (at d) s → Valid allowed n (at d) t → rank n t ≤ f + rank n s → (t ⊏ s → ⊥) → Reach s t
    unfolding times
    climb zero s t v w b h = go (lex_total s t)
      where
        go : (s ⊏ t) ⊎ ((s ≡ t) ⊎ (t ⊏ s)) → Reach s t
        go (inl c) = absurd (omega (arith, rank_grows n (at d) (at d) s t v w c))
        go (inr (inl e)) = (0, e)
        go (inr (inr c)) = absurd (h c)
    climb (suc f) s t v w b h =
        go (lex_total s t) (successor_law allowed n d s).1
        (λ a c. climb f (successor allowed n (at d) s) t (successor_law allowed n d s).0 w
        (omega (arith, rank_grows n (at d) (at d) s (successor allowed n (at d) s) v (successor_law allowed n d s).0 a.0)) (a.1 t w c))
      where
        go : (s ⊏ t) ⊎ ((s ≡ t) ⊎ (t ⊏ s)) → Cycle allowed n (at d) s (successor allowed n (at d) s)
            → (Next allowed n (at d) s (successor allowed n (at d) s) → s ⊏ t → Reach (successor allowed n (at d) s) t) → Reach s t
        go (inl c) (inl a) k = let r = k a c in (suc r.0, r.1)
        go (inl c) (inr a) k = absurd (a.0 t w c)
        go (inr (inl e)) a k = (0, e)
        go (inr (inr c)) a k = absurd (h c)

    reach_trans : (s t u : List ℕ) → Reach s t → Reach t u → Reach s u
    unfolding times
    reach_trans s t u (j, e) (k, g) = go j s e
      where
        go : (j : ℕ) (s : List ℕ) → times j s ≡ t → Reach s u
        go zero s e = (k, ap (times k) e ∙ g)
        go (suc j) s e = let r = go j (successor allowed n (at d) s) e in (suc r.0, r.1)

    -- After the greatest comes the apex.
    successor_top : successor allowed n (at d) (top allowed n (at d)) ≡ []
    successor_top = go (successor allowed n (at d) (top allowed n (at d))) (successor_law allowed n d (top allowed n (at d)))
      where
        go : (s : List ℕ) → Valid allowed n (at d) s × Cycle allowed n (at d) (top allowed n (at d)) s → s ≡ []
        go [] h = refl
        go (x ∷ s) (v, inl h) = absurd ((top_law allowed n d).1 (x ∷ s) v h.0)
        go (x ∷ s) (v, inr h) = absurd (h.1 [] tt tt)

    pub reach : (s t : List ℕ) → Valid allowed n (at d) s → Valid allowed n (at d) t → Reach s t
    unfolding times
    reach s t v w =
        reach_trans s g t
        (climb (rank n g) s g v (top_law allowed n d).0 (omega arith) ((top_law allowed n d).1 s v))
        (reach_trans g [] t (1, successor_top) (climb (rank n t) [] t tt w (omega arith) (nothing_below t)))
      where
        g : List ℕ
        g = top allowed n (at d)

    times_valid : (k : ℕ) (s : List ℕ) → Valid allowed n (at d) s → Valid allowed n (at d) (times k s)
    unfolding times
    times_valid zero s v = v
    times_valid (suc k) s v = times_valid k (successor allowed n (at d) s) (successor_law allowed n d s).0

    times_suc : (k : ℕ) (s : List ℕ) → times (suc k) s ≡ successor allowed n (at d) (times k s)
    unfolding times
    times_suc zero s = refl
    times_suc (suc k) s = times_suc k (successor allowed n (at d) s)

    -- what comes again after k more steps came k steps after the start
    pub times_return : (j k : ℕ) (s : List ℕ) → Valid allowed n (at d) s → times (j + k) s ≡ times j s → times k s ≡ s
    unfolding times
    times_return zero k s v e = rw zero-add at e
    times_return (suc j) k s v e =
        let w = times_valid (j + k) s v in
        let u = times_valid j s v in
        let g : successor allowed n (at d) (times (j + k) s) ≡ successor allowed n (at d) (times j s)
        = sym (times_suc (j + k) s) ∙ ap (λ (i : ℕ). times i s) (sym (suc-add j k)) ∙ e ∙ times_suc j s in
        times_return j k s v
        (sym (predecessor_successor allowed n d (times (j + k) s) w) ∙ ap (λ (t : List ℕ). predecessor allowed n (at d) t) g
        ∙ predecessor_successor allowed n d (times j s) u)
