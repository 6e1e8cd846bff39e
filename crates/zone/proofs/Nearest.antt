-- Which of two sequences is next to the other among the valid ones, as a cycle: no valid one is between, or they are its last and its
-- first. A sequence has at most one next and at most one previous valid sequence (`next_unique`, `previous_unique`).
use mathlib.Core.Path.{◌≡◌, refl, sym, subst}
use mathlib.Core.List.{List, [], ◌∷◌}
use mathlib.Core.Logic.{◌⊎◌, inl, inr}
use mathlib.Core.Bool.{Bool}
use Prim.Native.Nat.{ℕ, suc}
use native.Mathlib.Omega.{arith}
use lib.Dec.{T}
use Rattle.order.specs.Order.{◌⊏◌}
use Rattle.order.specs.Place.{Place, move, legal, Valid}
use Rattle.order.proofs.Lexicographic.{lex_total}

pub nothing_below : (t : List ℕ) → t ⊏ [] → ⊥
nothing_below [] h = h
nothing_below (x ∷ t) h = h

module _ (allowed : ℕ → Bool) where
  -- no valid sequence is above s
  abbrev pub Greatest : ℕ → Place → List ℕ → Type 0
  Greatest n q s = (u : List ℕ) → Valid allowed n q u → s ⊏ u → ⊥

  -- no valid sequence is below s
  abbrev pub Least : ℕ → Place → List ℕ → Type 0
  Least n q s = (u : List ℕ) → Valid allowed n q u → u ⊏ s → ⊥

  -- t is above s, and no valid sequence is between
  abbrev pub Next : ℕ → Place → List ℕ → List ℕ → Type 0
  Next n q s t = (s ⊏ t) × ((u : List ℕ) → Valid allowed n q u → s ⊏ u → u ⊏ t → ⊥)

  pub same_symbol : (n : ℕ) (q : Place) (x y : ℕ) (s : List ℕ) → y ≡ x → Valid allowed (suc n) q (x ∷ s)
      → T (legal allowed (suc n) q y) × Valid allowed n (move q y) s
  same_symbol n q x y s e v = subst (λ (z : ℕ). T (legal allowed (suc n) q z) × Valid allowed n (move q z) s) (sym e) v

  -- the same symbol in front
  pub next_cons : (n : ℕ) (q : Place) (x : ℕ) (s t : List ℕ) → Next n (move q x) s t → Next (suc n) q (x ∷ s) (x ∷ t)
  next_cons n q x s t h = (inr (refl, h.0), go)
    where
      go : (u : List ℕ) → Valid allowed (suc n) q u → (x ∷ s) ⊏ u → u ⊏ (x ∷ t) → ⊥
      go [] v a b = a
      go (y ∷ u) v (inl a) (inl b) = omega arith
      go (y ∷ u) v (inl a) (inr b) = omega arith
      go (y ∷ u) v (inr a) (inl b) = omega arith
      go (y ∷ u) v (inr a) (inr b) = h.1 u (subst (λ (z : ℕ). Valid allowed n (move q z) u) (sym a.0) v.1) a.1 b.1

  -- t is the next after s, or s is the last and t the first
  abbrev pub Cycle : ℕ → Place → List ℕ → List ℕ → Type 0
  Cycle n q s t = Next n q s t ⊎ (Greatest n q s × Least n q t)

  -- each sequence has one next and one previous
  pub next_unique : (n : ℕ) (q : Place) (s t u : List ℕ) → Valid allowed n q t → Valid allowed n q u → Cycle n q s t → Cycle n q s u → t ≡ u
  next_unique n q s t u v w a b = go (lex_total t u) a b
    where
      go : (t ⊏ u) ⊎ ((t ≡ u) ⊎ (u ⊏ t))
          → Next n q s t ⊎ (Greatest n q s × Least n q t)
          → Next n q s u ⊎ (Greatest n q s × Least n q u)
          → t ≡ u
      go (inr (inl e)) a b = e
      go (inl c) (inl a) (inl b) = absurd (b.1 t v a.0 c)
      go (inl c) (inl a) (inr b) = absurd (b.0 t v a.0)
      go (inl c) (inr a) (inl b) = absurd (a.0 u w b.0)
      go (inl c) (inr a) (inr b) = absurd (b.1 t v c)
      go (inr (inr c)) (inl a) (inl b) = absurd (a.1 u w b.0 c)
      go (inr (inr c)) (inl a) (inr b) = absurd (b.0 t v a.0)
      go (inr (inr c)) (inr a) (inl b) = absurd (a.0 u w b.0)
      go (inr (inr c)) (inr a) (inr b) = absurd (a.1 u w c)

  pub previous_unique : (n : ℕ) (q : Place) (s t u : List ℕ) → Valid allowed n q s → Valid allowed n q t → Cycle n q s u → Cycle n q t u
      → s ≡ t
  previous_unique n q s t u v w a b = go (lex_total s t) a b
    where
      go : (s ⊏ t) ⊎ ((s ≡ t) ⊎ (t ⊏ s))
          → Next n q s u ⊎ (Greatest n q s × Least n q u)
          → Next n q t u ⊎ (Greatest n q t × Least n q u)
          → s ≡ t
      go (inr (inl e)) a b = e
      go (inl c) (inl a) (inl b) = absurd (a.1 t w c b.0)
      go (inl c) (inl a) (inr b) = absurd (b.1 s v a.0)
      go (inl c) (inr a) (inl b) = absurd (a.1 t w b.0)
      go (inl c) (inr a) (inr b) = absurd (a.0 t w c)
      go (inr (inr c)) (inl a) (inl b) = absurd (b.1 s v c a.0)
      go (inr (inr c)) (inl a) (inr b) = absurd (b.1 s v a.0)
      go (inr (inr c)) (inr a) (inl b) = absurd (a.1 t w b.0)
      go (inr (inr c)) (inr a) (inr b) = absurd (b.0 s v c)
