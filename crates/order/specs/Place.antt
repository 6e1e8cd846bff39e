-- Which sequences are names: the place in a sequence, how a symbol moves it, and which symbols may stand there, over an alphabet,
-- the number of symbols left and the number of labels left.
use Rattle.std.specs.Prelude.{List, [], ◌∷◌, Bool, true, false, ◌&&◌, cond, ℕ, zero, suc, T, ltb}

-- between two labels, with d labels left to write; or in a label, with r octets left in it and d labels left after it
pub data Place : Type 0 where
  at : (d : ℕ) → Place
  within : (d r : ℕ) → Place

-- where n symbols are left a further octet fits: it, and the 0 that closes its label
abbrev pub room : ℕ → Place → Bool
room zero q = false
room (suc zero) q = false
room (suc (suc n)) (at zero) = false
room (suc (suc n)) (at (suc d)) = true
room (suc (suc n)) (within d zero) = false
room (suc (suc n)) (within d (suc r)) = true

-- the place after a symbol: the first octet of a label leaves 62 more
abbrev pub move : Place → ℕ → Place
move (at zero) x = at zero
move (at (suc d)) x = within d 62
move (within d r) zero = at d
move (within d zero) (suc o) = within d zero
move (within d (suc r)) (suc o) = within d r

-- the octets of the full alphabet: all but the upper-case letters, which folding leaves nowhere
abbrev pub full : ℕ → Bool
full o = cond (ltb o 65) true (ltb 90 o)

-- an alphabet says which octets a name may have
module _ (allowed : ℕ → Bool) where
  -- o is an octet of the alphabet
  abbrev pub octet : ℕ → Bool
  octet o = ltb o 256 && allowed o

  -- the symbol x may stand here, where n symbols are left
  abbrev pub legal : ℕ → Place → ℕ → Bool
  legal n (at d) zero = false
  legal n (within d r) zero = true
  legal n q (suc o) = room n q && octet o

  -- the sequence s completes a name, with at most n symbols
  abbrev pub Valid : ℕ → Place → List ℕ → Type 0
  Valid n (at d) [] = Unit {0}
  Valid n (within d r) [] = ⊥
  Valid zero q (x ∷ s) = ⊥
  Valid (suc n) q (x ∷ s) = T (legal (suc n) q x) × Valid n (move q x) s
