-- What stands first in a text: characters are none, a dot, the spelling of an octet, or a spelling that is broken off. What holds in these
-- four cases, given that it holds of the rest, holds of every text (`text_induction`).
use mathlib.Core.Path.{◌≡◌, refl, ap}
use mathlib.Core.List.{List, [], ◌∷◌, ◌++◌}
use mathlib.Core.Bool.{Bool, true, false, ◌&&◌, ◌||◌, not, cond}
use Prim.Native.Nat.{ℕ, zero, suc, ◌+◌, ◌-◌, ◌*◌, ◌≤◌, ◌<◌}
use native.Mathlib.Omega.{arith}
use borrow.Author.Tests.{leb-true, le-leb, eqb-true}
use lib.Dec.{T, eqb, leb}
use lib.ListN.{length, length-append}
use Rattle.facts.proofs.Booleans.{both_true}
use Rattle.text.specs.Characters.{dot, backslash, printable, digit, number}
use Rattle.text.specs.Grammar.{Spells, itself, escaped, numbered}

-- ---- tests

pub is_true : (b : Bool) → T b → b ≡ true
is_true true h = refl
is_true false h = absurd h

true_is : (b : Bool) → b ≡ true → T b
true_is b e = rw e tt

pub plain_parts : (a b c : Bool) → T (a && not (b || c)) → (a ≡ true) × (b ≡ false) × (c ≡ false)
plain_parts true true c h = absurd h
plain_parts true false true h = absurd h
plain_parts true false false h = (refl, refl, refl)
plain_parts false b c h = absurd h

parts_plain : (a b c : Bool) → a ≡ true → b ≡ false → c ≡ false → T (a && not (b || c))
parts_plain a b c e f g = rw (e, f, g) tt

pub not_is : (b : Bool) → T (not b) → b ≡ false
not_is true h = absurd h
not_is false h = refl

is_not : (b : Bool) → b ≡ false → T (not b)
is_not b e = rw e tt

-- ---- digits

-- the digit c goes on from the number v
abbrev pub goes_on : ℕ → ℕ → ℕ → Bool
goes_on most v c = digit c && leb (number v c) most

-- the character c goes on from a backslash
abbrev pub follows : ℕ → Bool
follows c = cond (digit c) (leb (number 0 c) 2) (printable c)

digit_true : (d : ℕ) → d ≤ 9 → digit (48 + d) ≡ true
digit_true d h = rw (le-leb 48 (48 + d) (omega arith), le-leb (48 + d) 57 (omega arith))

number_digit : (v d : ℕ) → number v (48 + d) ≡ 10 * v + d
number_digit v d = omega arith

pub takes_digit : (most v d : ℕ) → d ≤ 9 → 10 * v + d ≤ most → goes_on most v (48 + d) ≡ true
takes_digit most v d h b = rw (digit_true d h, number_digit v d, le-leb (10 * v + d) most b)

pub printable_small : (c : ℕ) → printable c ≡ true → c < 256
printable_small c e = omega (arith, leb-true c 126 (both_true (leb 33 c) (leb c 126) e).1)

digit_range : (c : ℕ) → digit c ≡ true → (48 ≤ c) × (c ≤ 57)
digit_range c e = let r = both_true (leb 48 c) (leb c 57) e in (leb-true 48 c r.0, leb-true c 57 r.1)

-- ---- what stands first

-- no character follows, or one that does not pass the test
abbrev pub NoneFollows : (ℕ → Bool) → List ℕ → Type 0
NoneFollows f [] = Unit {0}
NoneFollows f (y ∷ s) = f y ≡ false

-- a character that no text has, or the beginning of an escape with which what follows does not go on
pub data Broken (front back : List ℕ) : Type 0 where
  character : (y : ℕ) (s : List ℕ) → eqb y dot ≡ false → eqb y backslash ≡ false → printable y ≡ false → front ≡ [] → back ≡ y ∷ s
      → Broken front back
  escape : NoneFollows follows back → front ≡ backslash ∷ [] → Broken front back
  second : (c : ℕ) → goes_on 2 0 c ≡ true → NoneFollows (goes_on 25 (number 0 c)) back → front ≡ backslash ∷ c ∷ [] → Broken front back
  third : (c d : ℕ) → goes_on 2 0 c ≡ true → goes_on 25 (number 0 c) d ≡ true → NoneFollows (goes_on 255 (number (number 0 c) d)) back
      → front ≡ backslash ∷ c ∷ d ∷ [] → Broken front back

-- what characters begin with
data First (s : List ℕ) : Type 0 where
  nothing : s ≡ [] → First s
  a_dot : (t : List ℕ) → s ≡ dot ∷ t → First s
  an_octet : (o : ℕ) (c t : List ℕ) → Spells o c → s ≡ c ++ t → First s
  broken_off : (front back : List ℕ) → Broken front back → s ≡ front ++ back → First s

pub first_digits : (c d e : ℕ) → goes_on 2 0 c ≡ true → goes_on 25 (number 0 c) d ≡ true → goes_on 255 (number (number 0 c) d) e ≡ true
    → Spells (number (number (number 0 c) d) e) (backslash ∷ c ∷ d ∷ e ∷ [])
first_digits c d e hc hd he =
    let bc = both_true (digit c) (leb (number 0 c) 2) hc in
    let bd = both_true (digit d) (leb (number (number 0 c) d) 25) hd in
    let be = both_true (digit e) (leb (number (number (number 0 c) d) e) 255) he in
    let rc = digit_range c bc.0 in
    let rd = digit_range d bd.0 in
    let re = digit_range e be.0 in
    let ec : 48 + (c - 48) ≡ c = omega arith in
    let ed : 48 + (d - 48) ≡ d = omega arith in
    let ee : 48 + (e - 48) ≡ e = omega arith in
    numbered (c - 48) (d - 48) (e - 48) (omega arith) (omega arith) (omega arith) (omega arith)
    (leb-true (number (number (number 0 c) d) e) 255 be.1) (rw (ec, ed, ee))

first_third : (c d : ℕ) (s : List ℕ) → goes_on 2 0 c ≡ true → goes_on 25 (number 0 c) d ≡ true → First (backslash ∷ c ∷ d ∷ s)
first_third c d [] hc hd = broken_off (backslash ∷ c ∷ d ∷ []) [] (third c d hc hd tt refl) refl
first_third c d (e ∷ s) hc hd = go (goes_on 255 (number (number 0 c) d) e) refl
  where
    go : (b : Bool) → goes_on 255 (number (number 0 c) d) e ≡ b → First (backslash ∷ c ∷ d ∷ e ∷ s)
    go true he = an_octet (number (number (number 0 c) d) e) (backslash ∷ c ∷ d ∷ e ∷ []) s (first_digits c d e hc hd he) refl
    go false he = broken_off (backslash ∷ c ∷ d ∷ []) (e ∷ s) (third c d hc hd he refl) refl

first_second : (c : ℕ) (s : List ℕ) → goes_on 2 0 c ≡ true → First (backslash ∷ c ∷ s)
first_second c [] hc = broken_off (backslash ∷ c ∷ []) [] (second c hc tt refl) refl
first_second c (d ∷ s) hc = go (goes_on 25 (number 0 c) d) refl
  where
    go : (b : Bool) → goes_on 25 (number 0 c) d ≡ b → First (backslash ∷ c ∷ d ∷ s)
    go true hd = first_third c d s hc hd
    go false hd = broken_off (backslash ∷ c ∷ []) (d ∷ s) (second c hc hd refl) refl

first_escape : (s : List ℕ) → First (backslash ∷ s)
first_escape [] = broken_off (backslash ∷ []) [] (escape tt refl) refl
first_escape (c ∷ s) = go (digit c) (leb (number 0 c) 2) (printable c) refl refl refl
  where
    go : (a b p : Bool) → digit c ≡ a → leb (number 0 c) 2 ≡ b → printable c ≡ p → First (backslash ∷ c ∷ s)
    go true true p ea eb ep = first_second c s (rw (ea, eb))
    go true false p ea eb ep = broken_off (backslash ∷ []) (c ∷ s) (escape (rw (ea, eb)) refl) refl
    go false b true ea eb ep = an_octet c (backslash ∷ c ∷ []) s (escaped (true_is (printable c) ep) (is_not (digit c) ea) refl) refl
    go false b false ea eb ep = broken_off (backslash ∷ []) (c ∷ s) (escape (rw (ea, ep)) refl) refl

first : (s : List ℕ) → First s
first [] = nothing refl
first (c ∷ s) = go (eqb c dot) (eqb c backslash) (printable c) refl refl refl
  where
    go : (a b p : Bool) → eqb c dot ≡ a → eqb c backslash ≡ b → printable c ≡ p → First (c ∷ s)
    go true b p ea eb ep = a_dot s (ap (λ (x : ℕ). x ∷ s) (eqb-true c dot ea))
    go false true p ea eb ep = let i : c ≡ backslash = eqb-true c backslash eb in rw i (first_escape s)
    go false false true ea eb ep =
        an_octet c (c ∷ []) s (itself (parts_plain (printable c) (eqb c dot) (eqb c backslash) ep ea eb) refl) refl
    go false false false ea eb ep = broken_off [] (c ∷ s) (character c s ea eb ep refl refl) refl

-- the first character of a spelling is no dot
pub record Starts (t : List ℕ) : Type 0 where
  pub head : ℕ
  pub tail : List ℕ
  pub is : t ≡ head ∷ tail
  pub no_dot : eqb head dot ≡ false

pub spelling_starts : (o : ℕ) (c : List ℕ) → Spells o c → Starts c
spelling_starts o c (itself h e) =
    record { head = o; tail = []; is = e; no_dot = (plain_parts (printable o) (eqb o dot) (eqb o backslash) h).1 }
spelling_starts o c (escaped h g e) = record { head = backslash; tail = o ∷ []; is = e; no_dot = refl }
spelling_starts o c (numbered h d u bh bd bu i b e) =
    record { head = backslash; tail = (48 + h) ∷ (48 + d) ∷ (48 + u) ∷ []; is = e; no_dot = refl }

spelling_some : (o : ℕ) (c : List ℕ) → Spells o c → 1 ≤ length c
spelling_some o c h = let s = spelling_starts o c h in omega (arith, ap length s.is)

module _
    (P : List ℕ → Type 0)
    (ends : P [])
    (dotted : (s : List ℕ) → P s → P (dot ∷ s))
    (spelled : (o : ℕ) (c s : List ℕ) → Spells o c → P s → P (c ++ s))
    (broken : (front back : List ℕ) → Broken front back → P (front ++ back)) where
  induction_on : (n : ℕ) (s : List ℕ) → length s ≤ n → P s
  induction_on zero [] h = ends
  induction_on zero (c ∷ s) h = absurd (omega arith)
  induction_on (suc n) s h = go (λ t g. induction_on n t g) (first s)
    where
      go : ((t : List ℕ) → length t ≤ n → P t) → First s → P s
      go ih (nothing e) = rw e ends
      go ih (a_dot t e) = rw e (dotted t (ih t (omega (arith, ap length e))))
      go ih (an_octet o c t g e) =
          rw e (spelled o c t g (ih t (omega (arith, ap length e, length-append c t, spelling_some o c g))))
      go ih (broken_off front back g e) = rw e (broken front back g)

  pub text_induction : (s : List ℕ) → P s
  text_induction s = induction_on (length s) s (omega arith)
