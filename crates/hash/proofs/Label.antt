-- The owner label: reading what is written gives the hash (`label_read`), what is read and written again is the label in lower case
-- (`label_written`), and labels sort as their hashes do (`label_order`, `order_label`). All three are laws of numbers and their digits: 20
-- digits in base 256 say as much as 32 in base 32.
use Rattle.std.proofs.Common.{◌≡◌, ℕ, zero, suc, ◌+◌, ◌-◌, ◌^◌, ◌<◌, ◌≤◌, Bool, true, false, cond, ◌&&◌, eqb, ltb, ◌⊎◌, List, [], ◌∷◌, map}
use Rattle.std.proofs.Common.{length, get_or, sym, refl, ap, ◌∙◌, inl, inr, add-zero, arith, ltb-false, ltb-true, le-ltb, lt-ltb, eq-eqb}
use Rattle.std.proofs.Common.{eqb-true, le-leb}
use native.Mathlib.Decide.{dec_lt}
use borrow.Author.Tests.{lt-leb}
use lib.ListN.{length-map}
use Rattle.facts.proofs.Booleans.{both_true}
use Rattle.space.specs.Fold.{lower_of, folded}
use Rattle.name.specs.Answer.{answer}
use Rattle.order.specs.Order.{◌⊏◌}
use Rattle.order.proofs.Lexicographic.{lex_irreflexive, lex_transitive, lex_total}
use Rattle.hash.specs.Digits.{value, digits, are_digits}
use Rattle.hash.specs.Label.{character, digit_of, label_of, label_digits, is_label, hash_of}
use Rattle.hash.specs.Answers.{read_label_of}
use Rattle.hash.specs.Private.Below.{Below}
use Rattle.hash.proofs.Digits.{below_tested, tested_below, value_below, value_order, order_value, digits_length, digits_below}
use Rattle.hash.proofs.Digits.{digits_value, value_digits}

-- ---- characters

pub character_digit : (d : ℕ) → d < 10 → character d ≡ d + 48
character_digit d h = rw (lt-ltb d 10 h)

pub character_letter : (d : ℕ) → 10 ≤ d → character d ≡ d + 87
character_letter d h = rw (le-ltb d 10 h)

pub digit_digit : (c : ℕ) → 48 ≤ c → c ≤ 57 → digit_of c ≡ c - 48
digit_digit c h k = rw (le-leb 48 c h, le-leb c 57 k)

pub digit_letter : (c : ℕ) → 97 ≤ c → c ≤ 118 → digit_of c ≡ c - 87
digit_letter c h k = rw (le-leb 48 c (omega arith), lt-leb c 57 (omega arith), le-leb 97 c h, le-leb c 118 k)

pub digit_below : (c : ℕ) → c < 48 → digit_of c ≡ 32
digit_below c h = rw (lt-leb 48 c h, lt-leb 97 c (omega arith))

pub digit_amid : (c : ℕ) → 57 < c → c < 97 → digit_of c ≡ 32
digit_amid c h k = rw (le-leb 48 c (omega arith), lt-leb c 57 h, lt-leb 97 c k)

pub digit_above : (c : ℕ) → 118 < c → digit_of c ≡ 32
digit_above c h = rw (le-leb 48 c (omega arith), lt-leb c 57 (omega arith), le-leb 97 c (omega arith), lt-leb c 118 h)

-- the test of a table of characters: each entry is its digit's, from the digit k on
abbrev listed : ℕ → List ℕ → Bool
listed k [] = true
listed k (c ∷ cs) = eqb c (character k) && listed (suc k) cs

-- and the rule at an entry
pub listed_character : (k : ℕ) (table : List ℕ) (i : ℕ) → listed k table ≡ true → i < length table → get_or table i 0 ≡ character (k + i)
listed_character k [] i e h = absurd (omega arith)
listed_character k (c ∷ cs) zero e h =
    eqb-true c (character k) (both_true (eqb c (character k)) (listed (suc k) cs) e).0 ∙ ap character (sym (add-zero k))
listed_character k (c ∷ cs) (suc i) e h =
    let s : suc k + i ≡ k + suc i = omega arith in
    listed_character (suc k) cs i (both_true (eqb c (character k)) (listed (suc k) cs) e).1 (omega arith) ∙ ap character s

-- a digit's character is lower case and stands for the digit
digit_of_character : (d : ℕ) → d < 32 → digit_of (lower_of (character d)) ≡ d
digit_of_character d h = go (ltb d 10) refl
  where
    go : (t : Bool) → ltb d 10 ≡ t → digit_of (lower_of (character d)) ≡ d
    go true e =
        let k = ltb-true d 10 e in
        rw (character_digit d k, lt-leb 65 (d + 48) (omega arith), digit_digit (d + 48) (omega arith) (omega arith)) (omega arith)
    go false e =
        let k = ltb-false d 10 e in
        rw (
          character_letter d k,
          le-leb 65 (d + 87) (omega arith),
          lt-leb (d + 87) 90 (omega arith),
          digit_letter (d + 87) (omega arith) (omega arith),
        ) (omega arith)

-- and a character that stands for a digit is that digit's
character_of_digit : (c : ℕ) → digit_of c < 32 → character (digit_of c) ≡ c
character_of_digit c h = go (dec_lt c 48) (dec_lt c 58) (dec_lt c 97) (dec_lt c 119)
  where
    go : Dec (c < 48) → Dec (c < 58) → Dec (c < 97) → Dec (c < 119) → character (digit_of c) ≡ c
    go (yes p) q r s = absurd (omega (arith, digit_below c p))
    go (no p) (yes q) r s =
        rw (digit_digit c (omega arith) (omega arith), character_digit (c - 48) (omega arith)) (omega arith)
    go (no p) (no q) (yes r) s = absurd (omega (arith, digit_amid c (omega arith) r))
    go (no p) (no q) (no r) (yes s) =
        rw (digit_letter c (omega arith) (omega arith), character_letter (c - 87) (omega arith)) (omega arith)
    go (no p) (no q) (no r) (no s) = absurd (omega (arith, digit_above c (omega arith)))

character_rises : (d e : ℕ) → d < e → character d < character e
character_rises d e h = go (ltb d 10) refl (ltb e 10) refl
  where
    go : (t : Bool) → ltb d 10 ≡ t → (u : Bool) → ltb e 10 ≡ u → cond t (d + 48) (d + 87) < cond u (e + 48) (e + 87)
    go true p true q = omega arith
    go true p false q = omega arith
    go false p true q = absurd (omega (arith, ltb-false d 10 p, ltb-true e 10 q))
    go false p false q = omega arith

-- ---- lists of them

digits_of_characters : (ds : List ℕ) → Below 32 ds → label_digits (map character ds) ≡ ds
digits_of_characters [] h = refl
digits_of_characters (d ∷ ds) h = rw (digit_of_character d h.0, digits_of_characters ds h.1)

characters_of_digits : (label : List ℕ) → Below 32 (label_digits label) → map character (label_digits label) ≡ folded label
characters_of_digits [] h = refl
characters_of_digits (c ∷ label) h = rw (character_of_digit (lower_of c) h.0, characters_of_digits label h.1)

characters_order : (ds es : List ℕ) → ds ⊏ es → map character ds ⊏ map character es
characters_order [] [] h = h
characters_order [] (e ∷ es) h = h
characters_order (d ∷ ds) [] h = h
characters_order (d ∷ ds) (e ∷ es) (inl h) = inl (character_rises d e h)
characters_order (d ∷ ds) (e ∷ es) (inr h) = inr (ap character h.0, characters_order ds es h.1)

order_characters : (ds es : List ℕ) → map character ds ⊏ map character es → ds ⊏ es
order_characters ds es h = go (lex_total ds es)
  where
    go : (ds ⊏ es) ⊎ ((ds ≡ es) ⊎ (es ⊏ ds)) → ds ⊏ es
    go (inl k) = k
    go (inr (inl k)) = absurd (lex_irreflexive (map character es) (rw k at h))
    go (inr (inr k)) =
        absurd (lex_irreflexive (map character ds) (lex_transitive (map character ds) (map character es) _ h (characters_order es ds k)))

-- ---- labels

-- the digits of a hash in base 32
abbrev in_label : List ℕ → List ℕ
in_label hash = digits 32 32 (value 256 hash)

pub label_length : (hash : List ℕ) → length (label_of hash) ≡ 32
unfolding label_of
label_length hash = simp length-map (digits_length 32 32 (value 256 hash))

pub label_digits_length : (label : List ℕ) → length (label_digits label) ≡ length label
label_digits_length label = simp length-map

pub hash_length : (label : List ℕ) → length (hash_of label) ≡ 20
unfolding hash_of
hash_length label = digits_length 256 20 (value 32 (label_digits label))

module _ (hash : List ℕ) (e : length hash ≡ 20) (h : Below 256 hash) where
  -- the number has room in 32 digits
  room : value 256 hash < 32 ^ 32
  room = rw e at (value_below 256 hash h)

  number_kept : value 32 (in_label hash) ≡ value 256 hash
  number_kept = value_digits 32 32 (value 256 hash) room

  read_back : label_digits (label_of hash) ≡ in_label hash
  unfolding label_of
  read_back = digits_of_characters _ (digits_below 32 32 (value 256 hash) (omega arith))

  is_label_lem : is_label (label_of hash) ≡ true
  unfolding label_of
  is_label_lem =
      rw (eq-eqb (length (label_of hash)) 32 (label_length hash), read_back)
      (tested_below 32 _ (digits_below 32 32 (value 256 hash) (omega arith)))

  read_hash : hash_of (label_of hash) ≡ hash
  unfolding hash_of
  read_hash = ap (λ (ds : List ℕ). digits 256 20 (value 32 ds)) read_back ∙ rw number_kept (rw e at (digits_value 256 hash h))

  -- reading what is written gives the hash
  pub label_read : read_label_of (label_of hash) ≡ answer hash
  label_read = rw (is_label_lem, read_hash)

-- what is read and written again is the label in lower case
pub label_written : (label : List ℕ) → is_label label ≡ true → label_of (hash_of label) ≡ folded label
unfolding label_of hash_of
label_written label e =
    let k = both_true (eqb (length label) 32) (are_digits 32 (label_digits label)) e in
    let h : Below 32 (label_digits label) = below_tested 32 (label_digits label) k.1 in
    let size : length (label_digits label) ≡ 32 = label_digits_length label ∙ eqb-true (length label) 32 k.0 in
    let small : value 32 (label_digits label) < 256 ^ 20 = rw size at (value_below 32 (label_digits label) h) in
    ap (λ (v : ℕ). map character (digits 32 32 v)) (value_digits 256 20 (value 32 (label_digits label)) small)
    ∙ ap (map character) (rw size at (digits_value 32 (label_digits label) h)) ∙ characters_of_digits label h

-- labels sort as their hashes do
module _ (s t : List ℕ) (es : length s ≡ 20) (et : length t ≡ 20) (hs : Below 256 s) (ht : Below 256 t) where
  sizes : length (in_label s) ≡ length (in_label t)
  sizes = digits_length 32 32 (value 256 s) ∙ sym (digits_length 32 32 (value 256 t))

  below : (v : ℕ) → Below 32 (digits 32 32 v)
  below v = digits_below 32 32 v (omega arith)

  pub label_order : s ⊏ t → label_of s ⊏ label_of t
  unfolding label_of
  label_order h =
      characters_order (in_label s) (in_label t)
      (order_value 32 (in_label s) (in_label t) sizes (below _) (below _)
      (rw (number_kept s es hs, number_kept t et ht) (value_order 256 s t (es ∙ sym et) hs ht h)))

  pub order_label : label_of s ⊏ label_of t → s ⊏ t
  unfolding label_of
  order_label h =
      order_value 256 s t (es ∙ sym et) hs ht
      (rw (number_kept s es hs, number_kept t et ht)
      at (value_order 32 (in_label s) (in_label t) sizes (below (value 256 s)) (below (value 256 t))
      (order_characters (in_label s) (in_label t) h)))
