-- The plain order of lists of octets or symbols is strict and total.
use mathlib.Core.Path.{◌≡◌, refl, sym, ◌∙◌}
use mathlib.Core.List.{List, [], ◌∷◌}
use mathlib.Core.Logic.{◌⊎◌, inl, inr}
use Prim.Native.Nat.{ℕ, ◌<◌}
use native.Mathlib.Omega.{arith}
use native.Mathlib.Decide.{dec_lt}
use Rattle.order.specs.Order.{◌⊏◌}

pub lex_irreflexive : (s : List ℕ) → s ⊏ s → ⊥
lex_irreflexive [] h = h
lex_irreflexive (x ∷ s) (inl h) = omega arith
lex_irreflexive (x ∷ s) (inr h) = lex_irreflexive s h.1

pub lex_transitive : (s t u : List ℕ) → s ⊏ t → t ⊏ u → s ⊏ u
lex_transitive [] [] u h k = absurd h
lex_transitive [] (y ∷ t) [] h k = k
lex_transitive [] (y ∷ t) (z ∷ u) h k = tt
lex_transitive (x ∷ s) [] u h k = absurd h
lex_transitive (x ∷ s) (y ∷ t) [] h k = k
lex_transitive (x ∷ s) (y ∷ t) (z ∷ u) (inl h) (inl k) = inl (omega arith)
lex_transitive (x ∷ s) (y ∷ t) (z ∷ u) (inl h) (inr k) = inl (omega arith)
lex_transitive (x ∷ s) (y ∷ t) (z ∷ u) (inr h) (inl k) = inl (omega arith)
lex_transitive (x ∷ s) (y ∷ t) (z ∷ u) (inr h) (inr k) = inr (h.0 ∙ k.0, lex_transitive s t u h.1 k.1)

-- Two numbers, and two sequences, are in order one way or the other, or equal.
pub number_total : (x y : ℕ) → (x < y) ⊎ ((x ≡ y) ⊎ (y < x))
number_total x y = go (dec_lt x y) (dec_lt y x)
  where
    go : Dec (x < y) → Dec (y < x) → (x < y) ⊎ ((x ≡ y) ⊎ (y < x))
    go (yes h) k = inl h
    go (no h) (yes k) = inr (inr k)
    go (no h) (no k) = inr (inl (omega arith))

pub lex_total : (s t : List ℕ) → (s ⊏ t) ⊎ ((s ≡ t) ⊎ (t ⊏ s))
lex_total [] [] = inr (inl refl)
lex_total [] (y ∷ t) = inl tt
lex_total (x ∷ s) [] = inr (inr tt)
lex_total (x ∷ s) (y ∷ t) = go (number_total x y) (lex_total s t)
  where
    go : (x < y) ⊎ ((x ≡ y) ⊎ (y < x)) → (s ⊏ t) ⊎ ((s ≡ t) ⊎ (t ⊏ s))
        → ((x ∷ s) ⊏ (y ∷ t)) ⊎ (((x ∷ s) ≡ (y ∷ t)) ⊎ ((y ∷ t) ⊏ (x ∷ s)))
    go (inl h) k = inl (inl h)
    go (inr (inr h)) k = inr (inr (inl h))
    go (inr (inl h)) (inl k) = inl (inr (h, k))
    go (inr (inl h)) (inr (inl k)) = inr (inl (cc))
    go (inr (inl h)) (inr (inr k)) = inr (inr (inr (sym h, k)))
