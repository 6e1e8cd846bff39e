-- The canonical order of names is strict and total, a name sorts before every name under it, and it is the plain order of the names'
-- canonical sequences, which tell the names apart.
use mathlib.Core.Path.{◌≡◌, refl, sym, ap, ◌∙◌}
use mathlib.Core.List.{List, [], ◌∷◌, ◌++◌, reverse, reverse_aux, reverse-append, reverse-reverse}
use mathlib.Core.Logic.{◌⊎◌, inl, inr}
use Prim.Native.Nat.{ℕ, ◌+◌, ◌≤◌}
use native.Mathlib.Omega.{arith}
use lib.ListN.{length, length-append, length-reverse}
use Rattle.name.specs.Labels.{wire}
use Rattle.order.specs.Order.{◌⊏◌, FromRight, Before}
use Rattle.order.specs.Sequence.{symbols, sequence, labels}
use Rattle.order.proofs.Lexicographic.{lex_irreflexive, lex_transitive, lex_total}
use Rattle.order.proofs.Sequences.{symbols_cons, symbols_order, symbols_order_back, labels_symbols}

-- ---- the canonical sequence

symbols_reverse : (ls ms : List (List ℕ)) → length (symbols (reverse_aux ls ms)) + 1 ≡ length (wire ls) + length (symbols ms)
symbols_reverse [] ms = omega arith
symbols_reverse (l ∷ ls) ms =
    let e : length (symbols (l ∷ ms)) ≡ length l + (1 + length (symbols ms)) = symbols_cons l ms in
    omega (arith, symbols_reverse ls (l ∷ ms), length-append l (wire ls))

-- the wire length is the sequence's length plus 1
pub sequence_length : (ls : List (List ℕ)) → length (wire ls) ≡ length (sequence ls) + 1
unfolding symbols
sequence_length ls = omega (arith, symbols_reverse ls [])

pub sequence_order : (ls ms : List (List ℕ)) → Before ls ms → sequence ls ⊏ sequence ms
sequence_order ls ms h = symbols_order (reverse ls) (reverse ms) h

pub sequence_order_back : (ls ms : List (List ℕ)) → sequence ls ⊏ sequence ms → Before ls ms
sequence_order_back ls ms h = symbols_order_back (reverse ls) (reverse ms) h

pub sequence_labels : (ls : List (List ℕ)) → reverse (labels (sequence ls)) ≡ ls
sequence_labels ls = ap reverse (labels_symbols (reverse ls)) ∙ reverse-reverse ls

pub sequence_injective : (ls ms : List (List ℕ)) → sequence ls ≡ sequence ms → ls ≡ ms
sequence_injective ls ms e = sym (sequence_labels ls) ∙ ap (λ (s : List ℕ). reverse (labels s)) e ∙ sequence_labels ms

-- ---- the canonical order

pub before_irreflexive : (ls : List (List ℕ)) → Before ls ls → ⊥
before_irreflexive ls h = lex_irreflexive (sequence ls) (sequence_order ls ls h)

pub before_transitive : (ls ms ns : List (List ℕ)) → Before ls ms → Before ms ns → Before ls ns
before_transitive ls ms ns h k =
    sequence_order_back ls ns (lex_transitive (sequence ls) (sequence ms) (sequence ns) (sequence_order ls ms h) (sequence_order ms ns k))

pub before_total : (ls ms : List (List ℕ)) → Before ls ms ⊎ ((ls ≡ ms) ⊎ Before ms ls)
before_total ls ms = go (lex_total (sequence ls) (sequence ms))
  where
    go : (sequence ls ⊏ sequence ms) ⊎ ((sequence ls ≡ sequence ms) ⊎ (sequence ms ⊏ sequence ls))
        → Before ls ms ⊎ ((ls ≡ ms) ⊎ Before ms ls)
    go (inl h) = inl (sequence_order_back ls ms h)
    go (inr (inl e)) = inr (inl (sequence_injective ls ms e))
    go (inr (inr h)) = inr (inr (sequence_order_back ms ls h))

front_first : (ls ms : List (List ℕ)) → 1 ≤ length ms → FromRight ls (ls ++ ms)
front_first [] [] h = absurd (omega arith)
front_first [] (m ∷ ms) h = tt
front_first (l ∷ ls) ms h = inr (refl, front_first ls ms h)

-- a name sorts before every name under it
pub before_under : (ms ls : List (List ℕ)) → 1 ≤ length ms → Before ls (ms ++ ls)
before_under ms ls h = rw (reverse-append ms ls) (front_first (reverse ls) (reverse ms) (rw (length-reverse ms) h))
