-- How the text reader goes on: past a dot (`read_dot`), past the spelling of an octet (`read_spelled`), up to where one is broken off
-- (`read_broken`), and not at all where no further octet fits (`read_full`).
use mathlib.Core.Path.{◌≡◌, refl, ◌∙◌}
use mathlib.Core.List.{List, [], ◌∷◌, ◌++◌}
use mathlib.Core.Bool.{Bool, true, false, cond, true≢false}
use Prim.Native.Nat.{ℕ, ◌+◌}
use native.Mathlib.Omega.{arith}
use lib.Dec.{eqb, leb}
use lib.ListN.{length}
use Rattle.facts.proofs.Booleans.{both_true}
use Rattle.name.specs.Reader.{stops}
use Rattle.text.specs.Characters.{dot, backslash, printable, digit, number}
use Rattle.text.specs.Grammar.{Spells, itself, escaped, numbered}
use Rattle.text.specs.ReadText.{fits, close, at_dot, read_on, read_escape, read_second, read_third}
use Rattle.text.proofs.Spellings.{is_true, plain_parts, not_is, takes_digit, goes_on, follows, NoneFollows}
use Rattle.text.proofs.Spellings.{Broken, character, escape, second, third}

module _ (done label : List ℕ) (p : ℕ) where
  pub read_dot : (s : List ℕ) → read_on done label p (dot ∷ s) ≡ at_dot label p (read_on (close done label) [] (p + 1) s)
  unfolding read_on
  read_dot s = refl

  -- where no further octet fits, any character but a dot stops it
  pub read_full : (y : ℕ) (s : List ℕ) → eqb y dot ≡ false → fits done label ≡ false → read_on done label p (y ∷ s) ≡ stops p
  unfolding read_on
  read_full y s e f = rw (e, f)

  pub read_second_lem : (v c : ℕ) (s : List ℕ) → goes_on 25 v c ≡ true
      → read_second v done label p (c ∷ s) ≡ read_third (number v c) done label (p + 1) s
  unfolding read_second
  read_second_lem v c s e = rw e

  pub read_third_lem : (v c : ℕ) (s : List ℕ) → goes_on 255 v c ≡ true
      → read_third v done label p (c ∷ s) ≡ read_on done (label ++ number v c ∷ []) (p + 1) s
  unfolding read_third
  read_third_lem v c s e = rw e

  -- what does not go on stops it
  pub second_stops : (v : ℕ) (s : List ℕ) → NoneFollows (goes_on 25 v) s → read_second v done label p s ≡ stops p
  unfolding read_second
  second_stops v [] h = refl
  second_stops v (c ∷ s) h = rw h

  pub third_stops : (v : ℕ) (s : List ℕ) → NoneFollows (goes_on 255 v) s → read_third v done label p s ≡ stops p
  unfolding read_third
  third_stops v [] h = refl
  third_stops v (c ∷ s) h = rw h

  pub escape_stops : (s : List ℕ) → NoneFollows follows s → read_escape done label p s ≡ stops p
  unfolding read_escape
  escape_stops [] h = refl
  escape_stops (c ∷ s) h = go (digit c) (printable c) refl refl h
    where
      go : (a b : Bool) → digit c ≡ a → printable c ≡ b → cond a (leb (number 0 c) 2) b ≡ false → read_escape done label p (c ∷ s) ≡ stops p
      go true b ea eb e = rw (ea, e)
      go false true ea eb e = absurd (true≢false e)
      go false false ea eb e = rw (ea, eb)

  pub escape_digit : (c : ℕ) (s : List ℕ) → goes_on 2 0 c ≡ true
      → read_escape done label p (c ∷ s) ≡ read_second (number 0 c) done label (p + 1) s
  unfolding read_escape
  escape_digit c s e = let a = both_true (digit c) (leb (number 0 c) 2) e in rw (a.0, a.1)

  pub escape_character : (c : ℕ) (s : List ℕ) → digit c ≡ false → printable c ≡ true
      → read_escape done label p (c ∷ s) ≡ read_on done (label ++ c ∷ []) (p + 1) s
  unfolding read_escape
  escape_character c s e h = rw (e, h)

module _ (done label : List ℕ) (p : ℕ) (f : fits done label ≡ true) where
  pub read_escape_lem : (s : List ℕ) → read_on done label p (backslash ∷ s) ≡ read_escape done label (p + 1) s
  unfolding read_on
  read_escape_lem s = rw f

  pub read_plain : (c : ℕ) (s : List ℕ) → eqb c dot ≡ false → eqb c backslash ≡ false → printable c ≡ true
      → read_on done label p (c ∷ s) ≡ read_on done (label ++ c ∷ []) (p + 1) s
  unfolding read_on
  read_plain c s a b h = rw (a, f, b, h)

  pub read_none : (c : ℕ) (s : List ℕ) → eqb c dot ≡ false → eqb c backslash ≡ false → printable c ≡ false
      → read_on done label p (c ∷ s) ≡ stops p
  unfolding read_on
  read_none c s a b h = rw (a, f, b, h)

  -- the spelling of an octet
  pub read_spelled : (o : ℕ) (c s : List ℕ) → Spells o c → read_on done label p (c ++ s) ≡ read_on done (label ++ o ∷ []) (p + length c) s
  read_spelled o c s (itself h e) =
      let a = plain_parts (printable o) (eqb o dot) (eqb o backslash) h in
      rw e (read_plain o s a.1 a.2 a.0)
  read_spelled o c s (escaped h g e) =
      let q : p + 1 + 1 ≡ p + 2 = omega arith in
      rw e (read_escape_lem (o ∷ s) ∙ escape_character done label (p + 1) o s (not_is (digit o) g) (is_true (printable o) h) ∙ rw q)
  read_spelled o c s (numbered h d u bh bd bu i b e) =
      let q : p + 1 + 1 + 1 + 1 ≡ p + 4 = omega arith in
      let v : ℕ = number 0 (48 + h) in
      let w : ℕ = number v (48 + d) in
      let n : number w (48 + u) ≡ o = omega arith in
      rw e
      (read_escape_lem _
      ∙ escape_digit done label (p + 1) (48 + h) _ (takes_digit 2 0 h bh (omega arith))
      ∙ read_second_lem done label (p + 1 + 1) v (48 + d) _ (takes_digit 25 v d bd (omega arith))
      ∙ read_third_lem done label (p + 1 + 1 + 1) w (48 + u) s (takes_digit 255 w u bu (omega arith))
      ∙ rw (q, n))

  -- a spelling that is broken off
  pub read_broken : (front back : List ℕ) → Broken front back → read_on done label p (front ++ back) ≡ stops (p + length front)
  read_broken front back (character y s a b h ef eb) = let q : p + 0 ≡ p = omega arith in rw (ef, eb, q) (read_none y s a b h)
  read_broken front back (escape h ef) = rw ef (read_escape_lem back ∙ escape_stops done label (p + 1) back h)
  read_broken front back (second c hc h ef) =
      let q : p + 1 + 1 ≡ p + 2 = omega arith in
      rw ef
      (read_escape_lem _
      ∙ escape_digit done label (p + 1) c back hc
      ∙ second_stops done label (p + 1 + 1) (number 0 c) back h
      ∙ rw q)
  read_broken front back (third c d hc hd h ef) =
      let q : p + 1 + 1 + 1 ≡ p + 3 = omega arith in
      rw ef
      (read_escape_lem _
      ∙ escape_digit done label (p + 1) c _ hc
      ∙ read_second_lem done label (p + 1 + 1) (number 0 c) d back hd
      ∙ third_stops done label (p + 1 + 1 + 1) (number (number 0 c) d) back h
      ∙ rw q)

-- where no further octet fits, nor does one that is broken off
pub broken_full : (done label : List ℕ) (p : ℕ) → fits done label ≡ false → (front back : List ℕ) → Broken front back
    → read_on done label p (front ++ back) ≡ stops p
broken_full done label p f front back (character y s a b h ef eb) = rw (ef, eb) (read_full done label p y s a f)
broken_full done label p f front back (escape h ef) = rw ef (read_full done label p backslash _ refl f)
broken_full done label p f front back (second c hc h ef) = rw ef (read_full done label p backslash _ refl f)
broken_full done label p f front back (third c d hc hd h ef) = rw ef (read_full done label p backslash _ refl f)
