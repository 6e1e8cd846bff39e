-- The canonical sequence: its length, its order (that of the labels, both ways), and the labels that it gives back.
use mathlib.Core.Path.{◌≡◌, refl, ap, ◌∙◌}
use mathlib.Core.Bool.{true≢false}
use mathlib.Core.List.{List, [], ◌∷◌}
use mathlib.Core.Logic.{◌⊎◌, inl, inr}
use Prim.Native.Nat.{ℕ, suc, ◌+◌}
use native.Mathlib.Omega.{arith}
use lib.ListN.{length}
use Rattle.order.specs.Order.{◌⊏◌, FromRight}
use Rattle.order.specs.Sequence.{closed, symbols, on_first, labels}

pub length_closed : (l k : List ℕ) → length (closed l k) ≡ length l + (1 + length k)
unfolding closed
length_closed [] k = omega arith
length_closed (o ∷ l) k = omega (arith, length_closed l k)

pub symbols_cons : (l : List ℕ) (ls : List (List ℕ)) → length (symbols (l ∷ ls)) ≡ length l + (1 + length (symbols ls))
unfolding symbols
symbols_cons l ls = length_closed l (symbols ls)

-- ---- order

closed_order : (l m j k : List ℕ) → (l ⊏ m) ⊎ ((l ≡ m) × (j ⊏ k)) → closed l j ⊏ closed m k
unfolding closed
closed_order [] [] j k (inl h) = absurd h
closed_order [] [] j k (inr h) = inr (refl, h.1)
closed_order [] (p ∷ m) j k h = inl (omega arith)
closed_order (o ∷ l) [] j k (inl h) = absurd h
closed_order (o ∷ l) [] j k (inr h) = let e = h.0 in absurd (true≢false (cc))
closed_order (o ∷ l) (p ∷ m) j k (inl (inl h)) = inl (omega arith)
closed_order (o ∷ l) (p ∷ m) j k (inl (inr h)) = inr (ap suc h.0, closed_order l m j k (inl h.1))
closed_order (o ∷ l) (p ∷ m) j k (inr h) =
    let e = h.0 in
    let a : o ≡ p = cc in
    let b : l ≡ m = cc in
    inr (ap suc a, closed_order l m j k (inr (b, h.1)))

closed_order_back : (l m j k : List ℕ) → closed l j ⊏ closed m k → (l ⊏ m) ⊎ ((l ≡ m) × (j ⊏ k))
unfolding closed
closed_order_back [] [] j k (inl h) = absurd (omega arith)
closed_order_back [] [] j k (inr h) = inr (refl, h.1)
closed_order_back [] (p ∷ m) j k h = inl tt
closed_order_back (o ∷ l) [] j k (inl h) = absurd (omega arith)
closed_order_back (o ∷ l) [] j k (inr h) = absurd (omega arith)
closed_order_back (o ∷ l) (p ∷ m) j k (inl h) = inl (inl (omega arith))
closed_order_back (o ∷ l) (p ∷ m) j k (inr h) = go (closed_order_back l m j k h.1)
  where
    a : o ≡ p
    a = omega arith

    go : (l ⊏ m) ⊎ ((l ≡ m) × (j ⊏ k)) → ((o ∷ l) ⊏ (p ∷ m)) ⊎ (((o ∷ l) ≡ (p ∷ m)) × (j ⊏ k))
    go (inl c) = inl (inr (a, c))
    go (inr c) = inr ((cc (a, c.0)), c.1)

pub symbols_order : (ls ms : List (List ℕ)) → FromRight ls ms → symbols ls ⊏ symbols ms
unfolding symbols closed
symbols_order [] [] h = h
symbols_order [] ([] ∷ ms) h = tt
symbols_order [] ((p ∷ m) ∷ ms) h = tt
symbols_order (l ∷ ls) [] h = absurd h
symbols_order (l ∷ ls) (m ∷ ms) (inl h) = closed_order l m (symbols ls) (symbols ms) (inl h)
symbols_order (l ∷ ls) (m ∷ ms) (inr h) = closed_order l m (symbols ls) (symbols ms) (inr (h.0, symbols_order ls ms h.1))

pub symbols_order_back : (ls ms : List (List ℕ)) → symbols ls ⊏ symbols ms → FromRight ls ms
unfolding symbols closed
symbols_order_back [] [] h = h
symbols_order_back [] (m ∷ ms) h = tt
symbols_order_back ([] ∷ ls) [] h = h
symbols_order_back ((o ∷ l) ∷ ls) [] h = h
symbols_order_back (l ∷ ls) (m ∷ ms) h = go (closed_order_back l m (symbols ls) (symbols ms) h) (symbols_order_back ls ms)
  where
    go : (l ⊏ m) ⊎ ((l ≡ m) × (symbols ls ⊏ symbols ms)) → (symbols ls ⊏ symbols ms → FromRight ls ms) → FromRight (l ∷ ls) (m ∷ ms)
    go (inl c) f = inl c
    go (inr c) f = inr (c.0, f c.1)

-- ---- the labels of a sequence

labels_closed : (l k : List ℕ) → labels (closed l k) ≡ l ∷ labels k
unfolding labels closed
labels_closed [] k = refl
labels_closed (o ∷ l) k = ap (on_first o) (labels_closed l k)

pub labels_symbols : (ls : List (List ℕ)) → labels (symbols ls) ≡ ls
unfolding labels symbols
labels_symbols [] = refl
labels_symbols (l ∷ ls) = labels_closed l (symbols ls) ∙ ap (λ (k : List (List ℕ)). l ∷ k) (labels_symbols ls)
