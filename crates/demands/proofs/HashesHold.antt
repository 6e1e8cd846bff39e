-- Request Twelve holds: from the laws of the ring, of owner labels and of what lies between.
use mathlib.Core.Path.{◌≡◌, refl, sym, ap, ◌∙◌}
use mathlib.Core.List.{List, [], ◌∷◌, ◌++◌}
use mathlib.Core.Logic.{◌⊎◌, ◌↔◌, inl, inr}
use mathlib.Core.Bool.{Bool, true, false, cond, not, ◌||◌, true≢false}
use Prim.Native.Nat.{ℕ, ◌+◌, ◌-◌, ◌%◌, ◌^◌, ◌≤◌, ◌<◌}
use native.Mathlib.Nat.{mod-eq_of_lt}
use native.Mathlib.Decide.{dec_lt}
use native.Mathlib.Omega.{arith}
use borrow.Author.Tests.{eqb-true, eqb-false, eq-eqb, ltb-true, lt-ltb, le-ltb}
use lib.Dec.{eqb, ltb}
use lib.ListN.{length}
use Rattle.facts.proofs.Booleans.{both_true, either_true}
use Rattle.space.specs.Octets.{Octets}
use Rattle.space.specs.Fold.{lower_of, folded}
use Rattle.name.specs.Answer.{Result, answer, refusal, fitted, refuse_if}
use Rattle.name.proofs.Answers.{answer_injective}
use Rattle.name.proofs.Folding.{Case, letter, other, lower_case, lower_letter, lower_small, lower_large}
use Rattle.neighbour.proofs.SmallAnswers.{fitted_if}
use Rattle.hash.specs.Digits.{value, are_digits}
use Rattle.hash.specs.Ring.{carried, after, before}
use Rattle.hash.specs.Between.{between, lies_between}
use Rattle.hash.specs.Label.{digit_of, label_of, label_digits, is_label, hash_of}
use Rattle.hash.specs.Answers.{refuse_no_hash, before_of, after_of, write_label_of, read_label_of, between_of}
use Rattle.hash.specs.Private.Below.{Below}
use Rattle.hash.proofs.Digits.{below_tested, tested_below, digits_below, value_injective}
use Rattle.hash.proofs.Ring.{after_length, before_length, after_octets, before_octets, value_after, value_before}
use Rattle.hash.proofs.Ring.{after_before, before_after, after_last}
use Rattle.hash.proofs.Label.{digit_digit, digit_letter, digit_below, digit_amid, digit_above}
use Rattle.hash.proofs.Label.{hash_length, label_read, label_written, label_order, order_label}
use Rattle.hash.proofs.Hashes.{is_hash}
use Rattle.hash.proofs.Between.{between_round, between_strict, between_only, between_itself}
use Rattle.demands.specs.Lines.{Line, RoomLine}
use Rattle.demands.specs.Hashes.{IsHash, HashLines, Base32Hex, AllBase32Hex, IsLabel, Hashes}
use Rattle.demands.proofs.Lines.{if_line, room_line}

below : (s : List ℕ) → Octets s → Below 256 s
below [] h = tt
below (o ∷ s) h = (h.0, below s h.1)

octets : (s : List ℕ) → Below 256 s → Octets s
octets [] h = tt
octets (o ∷ s) h = (h.0, octets s h.1)

-- ---- lines

no_hash : (s : List ℕ) → not (eqb (length s) 20) ≡ true → length s ≡ 20 → ⊥
no_hash s e h = true≢false (sym e ∙ ap not (eq-eqb (length s) 20 h))

not_false : (b : Bool) → not b ≡ false → b ≡ true
not_false true e = refl
not_false false e = absurd (true≢false e)

twenty : (s : List ℕ) → not (eqb (length s) 20) ≡ false → length s ≡ 20
twenty s e = eqb-true (length s) 20 (not_false (eqb (length s) 20) e)

hash_lines : (s a : List ℕ) (room : ℕ) → HashLines (fitted room (refuse_no_hash s (answer a))) s room a
hash_lines s a room =
    rw (fitted_if (not (eqb (length s) 20)) 17 room (answer a))
    (if_line (fitted room (answer a)) (λ r. RoomLine r room a) (room_line room a)
    (not (eqb (length s) 20)) 17 (length s ≡ 20 → ⊥) (no_hash s) (λ e f. f (twenty s e)))

between_lines : (first hash second : List ℕ)
    → Line (between_of first hash second) (refusal 17 []) ((length first ≡ 20) × (length hash ≡ 20) × (length second ≡ 20) → ⊥)
    (between_of first hash second ≡ answer (cond (lies_between first hash second) 1 0))
between_lines first hash second = go (eqb (length first) 20) refl (eqb (length hash) 20) refl (eqb (length second) 20) refl
  where
    told : Result ℕ
    told = answer (cond (lies_between first hash second) 1 0)

    lines : Result ℕ → Type 0
    lines r = Line r (refusal 17 []) ((length first ≡ 20) × (length hash ≡ 20) × (length second ≡ 20) → ⊥) (r ≡ told)

    go : (a : Bool) → eqb (length first) 20 ≡ a → (b : Bool) → eqb (length hash) 20 ≡ b → (c : Bool) → eqb (length second) 20 ≡ c
        → lines (refuse_if (not a) 17 (refuse_if (not b) 17 (refuse_if (not c) 17 told)))
    go false e b f c g = inl (λ h. eqb-false (length first) 20 e h.0, refl)
    go true e false f c g = inl (λ h. eqb-false (length hash) 20 f h.1, refl)
    go true e true f false g = inl (λ h. eqb-false (length second) 20 g h.2, refl)
    go true e true f true g =
        inr (λ n. n (eqb-true (length first) 20 e, eqb-true (length hash) 20 f, eqb-true (length second) 20 g), refl)

-- ---- the ring

after_hash : (s : List ℕ) → IsHash s → IsHash (after s)
after_hash s h = (after_length s ∙ h.0, octets (after s) (after_octets s))

before_hash : (s : List ℕ) → IsHash s → IsHash (before s)
before_hash s h = (before_length s ∙ h.0, octets (before s) (before_octets s))

one_more : (s : List ℕ) → IsHash s → IsHash (after s) × (value 256 (after s) ≡ (value 256 s + 1) % 2 ^ 160)
one_more s h = (after_hash s h, rw h.0 at (value_after s))

one_less : (s : List ℕ) → IsHash s → IsHash (before s) × (value 256 (before s) ≡ (value 256 s + (2 ^ 160 - 1)) % 2 ^ 160)
one_less s h = (before_hash s h, rw h.0 at (value_before s (below s h.1)))

kept_carry : (s : List ℕ) (o : ℕ) → o < 255 → Octets s → carried (s ++ o ∷ []) ≡ 0
unfolding carried
kept_carry [] o h k = omega arith
kept_carry (x ∷ s) o h k = rw (kept_carry s o h k.1) (omega (arith, k.0))

last_octet : (s : List ℕ) (o : ℕ) → o < 255 → Octets s → after (s ++ o ∷ []) ≡ s ++ (o + 1) ∷ []
unfolding after carried
last_octet [] o h k = ap (λ (n : ℕ). n ∷ []) (mod-eq_of_lt (omega arith))
last_octet (x ∷ s) o h k =
    rw (kept_carry s o h k.1, last_octet s o h k.1) (ap (λ (n : ℕ). n ∷ s ++ (o + 1) ∷ []) (omega (arith, k.0)))

passed_carry : (s : List ℕ) → carried (s ++ 255 ∷ []) ≡ carried s
unfolding carried
passed_carry [] = refl
passed_carry (x ∷ s) = rw (passed_carry s)

carries : (s : List ℕ) → after (s ++ 255 ∷ []) ≡ after s ++ 0 ∷ []
unfolding after carried
carries [] = refl
carries (x ∷ s) = rw (passed_carry s, carries s)

after_undone : (s : List ℕ) → IsHash s → before_of (after s) ≡ answer s
after_undone s h =
    is_hash (after s) (answer (before (after s))) (after_hash s h).0 ∙ ap (λ (t : List ℕ). answer t) (before_after s (below s h.1))

before_undone : (s : List ℕ) → IsHash s → after_of (before s) ≡ answer s
before_undone s h =
    is_hash (before s) (answer (after (before s))) (before_hash s h).0 ∙ ap (λ (t : List ℕ). answer t) (after_before s (below s h.1))

-- ---- labels

-- a character that stands for a digit is one of base32hex
character_read : (c : ℕ) → digit_of (lower_of c) < 32 → Base32Hex c
character_read c h = go (lower_case c)
  where
    plain : digit_of c < 32 → Dec (c < 48) → Dec (c < 58) → Dec (c < 97) → Dec (c < 119) → Base32Hex c
    plain k (yes p) q r s = absurd (omega (arith, k, digit_below c p))
    plain k (no p) (yes q) r s = inl (omega arith, omega arith)
    plain k (no p) (no q) (yes r) s = absurd (omega (arith, k, digit_amid c (omega arith) r))
    plain k (no p) (no q) (no r) (yes s) = inr (inr (omega arith, omega arith))
    plain k (no p) (no q) (no r) (no s) = absurd (omega (arith, k, digit_above c (omega arith)))

    raised : 65 ≤ c → digit_of (c + 32) < 32 → Dec (c < 87) → Base32Hex c
    raised p k (yes q) = inr (inl (p, omega arith))
    raised p k (no q) = absurd (omega (arith, k, digit_above (c + 32) (omega arith)))

    go : Case c → Base32Hex c
    go (letter p q e) = raised p (rw e at h) (dec_lt c 87)
    go (other f e) = plain (rw e at h) (dec_lt c 48) (dec_lt c 58) (dec_lt c 97) (dec_lt c 119)

read_character : (c : ℕ) → Base32Hex c → digit_of (lower_of c) < 32
read_character c (inl (h, k)) = rw (lower_small c (omega arith), digit_digit c h k) (omega arith)
read_character c (inr (inl (h, k))) =
    rw (lower_letter c h (omega arith), digit_letter (c + 32) (omega arith) (omega arith)) (omega arith)
read_character c (inr (inr (h, k))) = rw (lower_large c (omega arith), digit_letter c h k) (omega arith)

characters_read : (s : List ℕ) → Below 32 (label_digits s) → AllBase32Hex s
characters_read [] h = tt
characters_read (c ∷ s) h = (character_read c h.0, characters_read s h.1)

read_characters : (s : List ℕ) → AllBase32Hex s → Below 32 (label_digits s)
read_characters [] h = tt
read_characters (c ∷ s) h = (read_character c h.0, read_characters s h.1)

is_label_lem : (s : List ℕ) → is_label s ≡ true → IsLabel s
is_label_lem s e =
    let k = both_true (eqb (length s) 32) (are_digits 32 (label_digits s)) e in
    (eqb-true (length s) 32 k.0, characters_read s (below_tested 32 (label_digits s) k.1))

label_is : (s : List ℕ) → IsLabel s → is_label s ≡ true
label_is s h = rw (eq-eqb (length s) 32 h.0) (tested_below 32 (label_digits s) (read_characters s h.1))

read_lines : (s : List ℕ) (room : ℕ) → let result = fitted room (read_label_of s) in
    Line result (refusal 17 []) (IsLabel s → ⊥) (RoomLine result room (hash_of s))
read_lines s room =
    rw (fitted_if (not (is_label s)) 17 room (answer (hash_of s)))
    (if_line (fitted room (answer (hash_of s))) (λ r. RoomLine r room (hash_of s)) (room_line room (hash_of s)) (not (is_label s)) 17
    (IsLabel s → ⊥) (λ e h. true≢false (sym e ∙ ap not (label_is s h))) (λ e f. f (is_label_lem s (not_false (is_label s) e))))

-- a label that is read passed the test
read_passed : (s a : List ℕ) → read_label_of s ≡ answer a → (is_label s ≡ true) × (hash_of s ≡ a)
read_passed s a = go (is_label s) refl
  where
    go : (t : Bool) → is_label s ≡ t → refuse_if (not t) 17 (answer (hash_of s)) ≡ answer a → (is_label s ≡ true) × (hash_of s ≡ a)
    go true e h = (e, answer_injective h)
    go false e h = absurd (true≢false (cc))

label_characters : (s : List ℕ) → IsHash s → IsLabel (label_of s) × (folded (label_of s) ≡ label_of s)
label_characters s h =
    let p = read_passed (label_of s) s (label_read s h.0 (below s h.1)) in
    (is_label_lem (label_of s) p.0, sym (label_written (label_of s) p.0) ∙ ap label_of p.1)

hash_read : (s : List ℕ) → IsHash (hash_of s)
unfolding hash_of
hash_read s = (hash_length s, octets (hash_of s) (digits_below 256 20 (value 32 (label_digits s)) (omega arith)))

written_again : (s : List ℕ) → IsLabel s → IsHash (hash_of s) × (write_label_of (hash_of s) ≡ answer (folded s))
written_again s h = (
  hash_read s,
  is_hash (hash_of s) (answer (label_of (hash_of s))) (hash_length s) ∙ ap (λ (t : List ℕ). answer t) (label_written s (label_is s h)),
)

-- ---- between

lies_up : (a x b : ℕ) → a < b → between a x b ≡ true ↔ (a < x) × (x < b)
lies_up a x b h = rw (lt-ltb a b h) (
  λ e. let k = both_true (ltb a x) (ltb x b) e in (ltb-true a x k.0, ltb-true x b k.1),
  λ k. rw (lt-ltb a x k.0, lt-ltb x b k.1),
)

lies_round : (a x b : ℕ) → b < a → between a x b ≡ true ↔ (a < x) ⊎ (x < b)
lies_round a x b h = rw (le-ltb a b (omega arith)) (λ e. some (either_true (ltb a x) (ltb x b) e), passed)
  where
    some : (ltb a x ≡ true) ⊎ (ltb x b ≡ true) → (a < x) ⊎ (x < b)
    some (inl e) = inl (ltb-true a x e)
    some (inr e) = inr (ltb-true x b e)

    passed : (a < x) ⊎ (x < b) → ltb a x || ltb x b ≡ true
    passed (inl k) = rw (lt-ltb a x k)
    passed (inr k) = go (ltb a x)
      where
        go : (t : Bool) → t || ltb x b ≡ true
        go true = refl
        go false = lt-ltb x b k

lies_equal : (s t : List ℕ) → IsHash s → IsHash t → lies_between s t s ≡ true ↔ (t ≡ s → ⊥)
lies_equal s t h k = (
  λ e d. true≢false (sym e ∙ rw d (between_strict (value 256 s) (value 256 s)).0),
  λ f. between_round (value 256 s) (value 256 t) (λ e. f (value_injective 256 t s (k.0 ∙ sym h.0) (below t k.1) (below s h.1) e)),
)

lies_alone : (s t : List ℕ) → IsHash s → IsHash t → lies_between (before s) t (after s) ≡ true ↔ t ≡ s
lies_alone s t h k =
    let some : 1 ≤ length s = omega (arith, h.0) in
    let b = below s h.1 in (
      λ e. between_only s some b t (k.0 ∙ sym h.0) (below t k.1) e,
      λ e. rw e (between_itself s some b),
    )

pub hashes : Hashes
hashes =
    record {
      after_lines = λ hash room. hash_lines hash (after hash) room;
      before_lines = λ hash room. hash_lines hash (before hash) room;
      one_more = one_more;
      one_less = one_less;
      first_after_last = ap (λ (s : List ℕ). answer s) (after_last 20);
      last_octet = last_octet;
      carries = carries;
      after_undone = after_undone;
      before_undone = before_undone;
      write_lines = λ hash room. hash_lines hash (label_of hash) room;
      label_characters = label_characters;
      read_lines = read_lines;
      read_back = λ hash h. label_read hash h.0 (below hash h.1);
      written_again = written_again;
      label_order = λ s t h k. (
        label_order s t h.0 k.0 (below s h.1) (below t k.1),
        order_label s t h.0 k.0 (below s h.1) (below t k.1),
      );
      between_lines = between_lines;
      lies_up = λ first hash second. lies_up (value 256 first) (value 256 hash) (value 256 second);
      lies_round = λ first hash second. lies_round (value 256 first) (value 256 hash) (value 256 second);
      lies_equal = lies_equal;
      lies_alone = lies_alone;
    }
