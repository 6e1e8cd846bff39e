-- How the key reader goes on, symbol by symbol. Octets are nothing, the code of a symbol before others, or an escape that is none
-- (`code_induction`); what the reader does in each case is `read_symbol`, `read_broken` and `read_escape_lem`.
use mathlib.Core.Path.{◌≡◌, refl}
use mathlib.Core.List.{List, [], ◌∷◌, ◌++◌}
use mathlib.Core.Bool.{true, false, cond, and-true}
use Prim.Native.Nat.{ℕ, zero, suc, ◌+◌, ◌-◌}
use native.Mathlib.Omega.{arith}
use lib.ListN.{length}
use Rattle.order.specs.Place.{Place, room, move, legal, full}
use Rattle.key.specs.ReadKey.{Read, stops, before, at_end, read_key, read_escaped}
use Rattle.key.proofs.Codes.{symbol_code}

-- ---- octets, taken apart

-- 01 and these octets begin no symbol's code
abbrev pub NoEscape : List ℕ → Type 0
NoEscape [] = Unit {0}
NoEscape (zero ∷ s) = Unit {0}
NoEscape (suc zero ∷ s) = ⊥
NoEscape (suc (suc zero) ∷ s) = ⊥
NoEscape (suc (suc (suc o)) ∷ s) = Unit {0}

module _
    (P : List ℕ → Type 0)
    (ends : P [])
    (symbol : (x : ℕ) (s : List ℕ) → P s → P (symbol_code x s))
    (broken : (s : List ℕ) → NoEscape s → P (1 ∷ s)) where
  pub code_induction : (s : List ℕ) → P s
  code_induction [] = ends
  code_induction (zero ∷ s) = symbol 0 s (code_induction s)
  code_induction (suc zero ∷ []) = broken [] tt
  code_induction (suc zero ∷ zero ∷ s) = broken (0 ∷ s) tt
  code_induction (suc zero ∷ suc zero ∷ s) = symbol 1 s (code_induction s)
  code_induction (suc zero ∷ suc (suc zero) ∷ s) = symbol 2 s (code_induction s)
  code_induction (suc zero ∷ suc (suc (suc o)) ∷ s) = broken (suc (suc (suc o)) ∷ s) tt
  code_induction (suc (suc o) ∷ s) = symbol (suc (suc (suc o))) s (code_induction s)

-- how many octets a symbol's code has
abbrev pub width : ℕ → ℕ
width zero = 1
width (suc zero) = 2
width (suc (suc zero)) = 2
width (suc (suc (suc o))) = 1

pub symbol_length : (x : ℕ) (s : List ℕ) → length (symbol_code x s) ≡ width x + length s
symbol_length zero s = omega arith
symbol_length (suc zero) s = omega arith
symbol_length (suc (suc zero)) s = omega arith
symbol_length (suc (suc (suc o))) s = omega arith

pub symbol_append : (x : ℕ) (s t : List ℕ) → symbol_code x s ++ t ≡ symbol_code x (s ++ t)
symbol_append zero s t = refl
symbol_append (suc zero) s t = refl
symbol_append (suc (suc zero)) s t = refl
symbol_append (suc (suc (suc o))) s t = refl

-- ---- the reader

-- the symbol x at the place p, if it may stand here
abbrev pub symbol_read : ℕ → Place → ℕ → ℕ → List ℕ → Read
symbol_read n q p x s = cond (legal full n q x) (before x (read_key (n - 1) (move q x) (p + width x) s)) (stops p)

two_on : (p : ℕ) → p + 1 + 1 ≡ p + 2
two_on p = omega arith

pub escape_legal : (n : ℕ) (q : Place) → legal full n q 1 ≡ room n q
escape_legal n q = and-true (room n q)

pub read_symbol : (n : ℕ) (q : Place) (p x : ℕ) (s : List ℕ) → read_key n q p (symbol_code x s) ≡ symbol_read n q p x s
unfolding read_key read_escaped
read_symbol n q p zero s = refl
read_symbol n q p (suc zero) s = rw (and-true (room n q), two_on p)
read_symbol n q p (suc (suc zero)) s = rw (and-true (room n q), two_on p)
read_symbol n q p (suc (suc (suc o))) s = refl

pub read_end : (n : ℕ) (q : Place) (p : ℕ) → read_key n q p [] ≡ at_end q p
unfolding read_key
read_end n q p = refl

pub read_escape_lem : (n : ℕ) (q : Place) (p : ℕ) (s : List ℕ) → room n q ≡ false → read_key n q p (1 ∷ s) ≡ stops p
unfolding read_key
read_escape_lem n q p s e = rw e

pub read_broken : (n : ℕ) (q : Place) (p : ℕ) (s : List ℕ) → NoEscape s → room n q ≡ true → read_key n q p (1 ∷ s) ≡ stops (p + 1)
unfolding read_key read_escaped
read_broken n q p [] h e = rw e
read_broken n q p (zero ∷ s) h e = rw e
read_broken n q p (suc zero ∷ s) h e = absurd h
read_broken n q p (suc (suc zero) ∷ s) h e = absurd h
read_broken n q p (suc (suc (suc o)) ∷ s) h e = rw e
