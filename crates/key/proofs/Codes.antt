-- The sorting key is the canonical sequence under a code of its symbols (`key_is_code`), and the code keeps the order of sequences, so
-- it tells them apart (`code_order`, `code_order_back`, `code_injective`).
use mathlib.Core.Path.{◌≡◌, refl, ap, ◌∙◌}
use mathlib.Core.List.{List, [], ◌∷◌}
use mathlib.Core.Logic.{◌⊎◌, inl, inr}
use Prim.Native.Nat.{ℕ, zero, suc, ◌≤◌, ◌<◌}
use native.Mathlib.Omega.{arith}
use Rattle.order.specs.Order.{◌⊏◌}
use Rattle.order.specs.Sequence.{closed, symbols}
use Rattle.order.proofs.Lexicographic.{lex_irreflexive, lex_transitive, lex_total}
use Rattle.key.specs.Key.{coded, label_key, right_key}

-- a symbol before the octets k: the 0 that closes a label as itself, o + 1 as the octet o is written
abbrev pub symbol_code : ℕ → List ℕ → List ℕ
symbol_code zero k = 0 ∷ k
symbol_code (suc o) k = coded o k

-- of a sequence of symbols
unfoldable pub code : List ℕ → List ℕ
code [] = []
code (x ∷ s) = symbol_code x (code s)

label_is_code : (l s : List ℕ) → label_key l (code s) ≡ code (closed l s)
unfolding label_key closed code
label_is_code [] s = refl
label_is_code (o ∷ l) s = ap (coded o) (label_is_code l s)

pub key_is_code : (ls : List (List ℕ)) → right_key ls ≡ code (symbols ls)
unfolding right_key symbols code
key_is_code [] = refl
key_is_code (l ∷ ls) = ap (label_key l) (key_is_code ls) ∙ label_is_code l (symbols ls)

-- ---- order

-- the order at a first symbol and what follows it
abbrev First : (x y : ℕ) → (j k : List ℕ) → Type 0
First x y j k = (x < y) ⊎ ((x ≡ y) × (j ⊏ k))

first_le : (x y : ℕ) (j k : List ℕ) → First x y j k → x ≤ y
first_le x y j k (inl h) = omega arith
first_le x y j k (inr h) = omega (arith, h.0)

coded_order : (o p : ℕ) (j k : List ℕ) → First o p j k → coded o j ⊏ coded p k
coded_order zero zero j k (inl h) = absurd (omega arith)
coded_order zero zero j k (inr h) = inr (refl, inr (refl, h.1))
coded_order zero (suc zero) j k h = inr (refl, inl (omega arith))
coded_order zero (suc (suc p)) j k h = inl (omega arith)
coded_order (suc zero) zero j k h = absurd (omega (arith, first_le 1 0 j k h))
coded_order (suc zero) (suc zero) j k (inl h) = absurd (omega arith)
coded_order (suc zero) (suc zero) j k (inr h) = inr (refl, inr (refl, h.1))
coded_order (suc zero) (suc (suc p)) j k h = inl (omega arith)
coded_order (suc (suc o)) zero j k h = absurd (omega (arith, first_le (suc (suc o)) 0 j k h))
coded_order (suc (suc o)) (suc zero) j k h = absurd (omega (arith, first_le (suc (suc o)) 1 j k h))
coded_order (suc (suc o)) (suc (suc p)) j k h = h

coded_first : (o : ℕ) (k l : List ℕ) → (0 ∷ l) ⊏ coded o k
coded_first zero k l = inl (omega arith)
coded_first (suc zero) k l = inl (omega arith)
coded_first (suc (suc o)) k l = inl (omega arith)

symbol_order : (x y : ℕ) (j k : List ℕ) → First x y j k → symbol_code x j ⊏ symbol_code y k
symbol_order zero zero j k h = h
symbol_order zero (suc p) j k h = coded_first p k j
symbol_order (suc o) zero j k h = absurd (omega (arith, first_le (suc o) 0 j k h))
symbol_order (suc o) (suc p) j k (inl h) = coded_order o p j k (inl (omega arith))
symbol_order (suc o) (suc p) j k (inr h) = coded_order o p j k (inr (omega (arith, h.0), h.1))

symbol_some : (x : ℕ) (k : List ℕ) → [] ⊏ symbol_code x k
symbol_some zero k = tt
symbol_some (suc zero) k = tt
symbol_some (suc (suc zero)) k = tt
symbol_some (suc (suc (suc o))) k = tt

pub code_order : (s t : List ℕ) → s ⊏ t → code s ⊏ code t
unfolding code
code_order [] [] h = h
code_order [] (y ∷ t) h = symbol_some y (code t)
code_order (x ∷ s) [] h = absurd h
code_order (x ∷ s) (y ∷ t) (inl h) = symbol_order x y (code s) (code t) (inl h)
code_order (x ∷ s) (y ∷ t) (inr h) = symbol_order x y (code s) (code t) (inr (h.0, code_order s t h.1))

-- The order of sequences is total, so the way back follows.
pub code_order_back : (s t : List ℕ) → code s ⊏ code t → s ⊏ t
code_order_back s t h = go (lex_total s t)
  where
    go : (s ⊏ t) ⊎ ((s ≡ t) ⊎ (t ⊏ s)) → s ⊏ t
    go (inl k) = k
    go (inr (inl e)) = absurd (lex_irreflexive (code t) (rw e at h))
    go (inr (inr k)) = absurd (lex_irreflexive (code s) (lex_transitive (code s) (code t) (code s) h (code_order t s k)))

pub code_injective : (s t : List ℕ) → code s ≡ code t → s ≡ t
code_injective s t e = go (lex_total s t)
  where
    go : (s ⊏ t) ⊎ ((s ≡ t) ⊎ (t ⊏ s)) → s ≡ t
    go (inl h) = absurd (lex_irreflexive (code t) (rw e at (code_order s t h)))
    go (inr (inl h)) = h
    go (inr (inr h)) = absurd (lex_irreflexive (code t) (rw e at (code_order t s h)))
