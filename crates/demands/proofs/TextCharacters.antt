-- The characters of texts, in numbers: the tests of the definitions are the ranges that request One gives.
use mathlib.Core.Path.{◌≡◌, refl, ap, ◌∙◌}
use mathlib.Core.List.{List, [], ◌∷◌}
use mathlib.Core.Bool.{Bool, true, false, not, ◌&&◌, true≢false}
use mathlib.Core.Logic.{◌⊎◌, ◌↔◌, inl, inr}
use Prim.Native.Nat.{ℕ, ◌+◌, ◌/◌, ◌%◌, ◌≤◌, ◌<◌}
use native.Mathlib.Omega.{arith}
use borrow.Author.Tests.{leb-true, leb-false, le-leb, lt-leb, eqb-false, ne_eqb}
use lib.Dec.{T, leb, eqb}
use Rattle.text.specs.Characters.{dot, backslash, printable, digit, plain, special}
use Rattle.text.specs.Grammar.{Spells, itself, escaped, numbered}
use Rattle.text.specs.WriteText.{characters_of}
use Rattle.facts.proofs.Booleans.{both_true}
use Rattle.text.proofs.Spellings.{is_true, not_is, plain_parts}
use Rattle.text.proofs.Characters.{special_cases, characters_number, characters_plain}
use Rattle.demands.specs.Text.{Plain, NonDigit, ThreeDigits, Special}

-- ---- tests

printable_range : (c : ℕ) → printable c ≡ true → (33 ≤ c) × (c ≤ 126)
printable_range c e = let b = both_true (leb 33 c) (leb c 126) e in (leb-true 33 c b.0, leb-true c 126 b.1)

range_printable : (c : ℕ) → 33 ≤ c → c ≤ 126 → printable c ≡ true
range_printable c h k = rw (le-leb 33 c h, le-leb c 126 k)

plain_is : (c : ℕ) → T (plain c) → Plain c
plain_is c h =
    let b = plain_parts (printable c) (eqb c dot) (eqb c backslash) h in
    let r = printable_range c b.0 in
    (omega (arith, r), omega (arith, r), eqb-false c dot b.1, eqb-false c backslash b.2)

is_plain : (c : ℕ) → Plain c → T (plain c)
is_plain c p = rw (range_printable c (omega (arith, p.0)) (omega (arith, p.1)), ne_eqb c dot p.2, ne_eqb c backslash p.3) tt

not_digit : (c : ℕ) → digit c ≡ false → (c < 48) ⊎ (57 < c)
not_digit c e = go (leb 48 c) (leb c 57) refl refl e
  where
    go : (a b : Bool) → leb 48 c ≡ a → leb c 57 ≡ b → a && b ≡ false → (c < 48) ⊎ (57 < c)
    go true true ea eb h = absurd (true≢false (cc))
    go true false ea eb h = inr (leb-false c 57 eb)
    go false b ea eb h = inl (leb-false 48 c ea)

digit_not : (c : ℕ) → (c < 48) ⊎ (57 < c) → T (not (digit c))
digit_not c (inl h) = rw (lt-leb 48 c h) tt
digit_not c (inr h) = rw (lt-leb c 57 h) (go (leb 48 c))
  where
    go : (a : Bool) → T (not (a && false))
    go true = tt
    go false = tt

-- ---- the grammar

spelled : (o : ℕ) (t : List ℕ) → Spells o t → (Plain o × (t ≡ o ∷ [])) ⊎ (NonDigit o × (t ≡ 92 ∷ o ∷ [])) ⊎ ThreeDigits o t
spelled o t (itself h e) = inl (plain_is o h, e)
spelled o t (escaped h g e) =
    let r = printable_range o (is_true (printable o) h) in
    inr (inl ((r.0, r.1, not_digit o (not_is (digit o) g)), e))
spelled o t (numbered h d u bh bd bu i b e) = inr (inr (h, d, u, bh, bd, bu, i, b, e))

spelling : (o : ℕ) (t : List ℕ) → (Plain o × (t ≡ o ∷ [])) ⊎ (NonDigit o × (t ≡ 92 ∷ o ∷ [])) ⊎ ThreeDigits o t → Spells o t
spelling o t (inl (p, e)) = itself (is_plain o p) e
spelling o t (inr (inl (p, e))) = escaped (rw (range_printable o p.0 p.1) tt) (digit_not o p.2) e
spelling o t (inr (inr (h, d, u, bh, bd, bu, i, b, e))) = numbered h d u bh bd bu i b e

pub character_spelled : (o : ℕ) (t : List ℕ)
    → Spells o t ↔ (Plain o × (t ≡ o ∷ [])) ⊎ (NonDigit o × (t ≡ 92 ∷ o ∷ [])) ⊎ ThreeDigits o t
character_spelled o t = (spelled o t, spelling o t)

-- ---- the writer

pub octet_left : (o : ℕ) → 33 ≤ o → o ≤ 126 → (Special o → ⊥) → characters_of o ≡ o ∷ []
octet_left o h k none = characters_plain o (range_printable o h k) (go (special o) refl)
  where
    is : special o ≡ true → Special o
    is =
        special_cases Special (inl refl) (inr (inl refl)) (inr (inr (inl refl))) (inr (inr (inr (inl refl))))
        (inr (inr (inr (inr (inl refl))))) (inr (inr (inr (inr (inr (inl refl))))))
        (inr (inr (inr (inr (inr (inr (inl refl))))))) (inr (inr (inr (inr (inr (inr (inr refl))))))) o

    go : (b : Bool) → special o ≡ b → special o ≡ false
    go true e = absurd (none (is e))
    go false e = e

pub octet_backslashed : (o : ℕ) → Special o → characters_of o ≡ 92 ∷ o ∷ []
octet_backslashed o (inl e) = rw e
octet_backslashed o (inr (inl e)) = rw e
octet_backslashed o (inr (inr (inl e))) = rw e
octet_backslashed o (inr (inr (inr (inl e)))) = rw e
octet_backslashed o (inr (inr (inr (inr (inl e))))) = rw e
octet_backslashed o (inr (inr (inr (inr (inr (inl e)))))) = rw e
octet_backslashed o (inr (inr (inr (inr (inr (inr (inl e))))))) = rw e
octet_backslashed o (inr (inr (inr (inr (inr (inr (inr e))))))) = rw e

pub octet_digits : (o : ℕ) → (o < 33) ⊎ (126 < o) → characters_of o ≡ 92 ∷ (48 + o / 100) ∷ (48 + o / 10 % 10) ∷ (48 + o % 10) ∷ []
octet_digits o out =
    characters_number o (outside out) ∙ ap (λ (h : ℕ). 92 ∷ (48 + h) ∷ (48 + o / 10 % 10) ∷ (48 + o % 10) ∷ []) hundreds
  where
    outside : (o < 33) ⊎ (126 < o) → printable o ≡ false
    outside (inl h) = rw (lt-leb 33 o h)
    outside (inr h) = rw (lt-leb o 126 h) (go (leb 33 o))
      where
        go : (a : Bool) → a && false ≡ false
        go true = refl
        go false = refl

    hundreds : o / 10 / 10 ≡ o / 100
    hundreds = omega arith
