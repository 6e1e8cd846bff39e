-- What stands behind a backslash: a digit that goes on (`Goes`), and how the reader follows the three of a number.
use mathlib.Core.Path.{◌≡◌, refl, sym, ap, ◌∙◌}
use mathlib.Core.List.{List, [], ◌∷◌, ◌++◌}
use mathlib.Core.Bool.{Bool, true, false, cond}
use Prim.Native.Nat.{ℕ, ◌+◌, ◌*◌, ◌≤◌, ◌<◌}
use native.Mathlib.Omega.{arith}
use native.Mathlib.Decide.{dec_lt}
use borrow.Author.Tests.{leb-true, le-leb, lt-leb}
use lib.Dec.{leb}
use lib.ListN.{length, drop, get_or, drop_of_length-le}
use Rattle.facts.proofs.Booleans.{both_true}
use Rattle.facts.proofs.Lists.{drop_next}
use Rattle.name.specs.Reader.{stops}
use Rattle.text.specs.Characters.{digit, number, printable}
use Rattle.text.specs.ReadText.{read_on, read_escape, read_second, read_third}
use Rattle.fromtext.specs.Private.Parse.{number_at, EscapeEnds}
use Rattle.text.proofs.Spellings.{goes_on, follows, NoneFollows, printable_small}
use Rattle.text.proofs.ReaderSteps.{read_second_lem, read_third_lem, second_stops, third_stops, escape_stops, escape_digit}
use Rattle.text.proofs.ReaderSteps.{escape_character}

-- ---- the character at a place

module _ (t : List ℕ) (p most v : ℕ) where
  pub number_none : length t ≤ p → 256 ≡ number_at most v (drop p t)
  number_none h = rw (drop_of_length-le t h)

  module _ (h : p < length t) where
    pub number_no_digit : digit (get_or t p 0) ≡ false → 256 ≡ number_at most v (drop p t)
    number_no_digit e = rw (drop_next t p 0 h, e)

    pub number_above : digit (get_or t p 0) ≡ true → most < number v (get_or t p 0) → 256 ≡ number_at most v (drop p t)
    number_above e g = rw (drop_next t p 0 h, e, lt-leb (number v (get_or t p 0)) most g)

    pub number_is : digit (get_or t p 0) ≡ true → number v (get_or t p 0) ≤ most → number v (get_or t p 0) ≡ number_at most v (drop p t)
    number_is e g = rw (drop_next t p 0 h, e, le-leb (number v (get_or t p 0)) most g)

pub digit_low : (c : ℕ) → digit c ≡ true → 48 ≤ c
digit_low c e = leb-true 48 c (both_true (leb 48 c) (leb c 57) e).0

pub digit_high : (c : ℕ) → digit c ≡ true → c ≤ 57
digit_high c e = leb-true c 57 (both_true (leb 48 c) (leb c 57) e).1

-- ---- a digit that goes on

pub record Goes (t : List ℕ) (p most v n : ℕ) : Type 0 where
  pub within : p < length t
  pub on : goes_on most v (get_or t p 0) ≡ true
  pub value : n ≡ number v (get_or t p 0)
  pub small : n ≤ most

first_goes : (most v c : ℕ) (s : List ℕ) → number_at most v (c ∷ s) ≤ 255
    → (goes_on most v c ≡ true) × (number_at most v (c ∷ s) ≡ number v c)
first_goes most v c s h = go (goes_on most v c) refl h
  where
    go : (b : Bool) → goes_on most v c ≡ b → cond b (number v c) 256 ≤ 255
        → (goes_on most v c ≡ true) × (cond b (number v c) 256 ≡ number v c)
    go true e g = (e, refl)
    go false e g = absurd (omega arith)

pub goes : (t : List ℕ) (p most v n : ℕ) → n ≡ number_at most v (drop p t) → n ≤ 255 → Goes t p most v n
goes t p most v n e h = go (dec_lt p (length t))
  where
    go : Dec (p < length t) → Goes t p most v n
    go (yes g) =
        let i : n ≡ number_at most v (get_or t p 0 ∷ drop (p + 1) t) = e ∙ ap (number_at most v) (drop_next t p 0 g) in
        let r = first_goes most v (get_or t p 0) (drop (p + 1) t) (omega (arith, i, h)) in
        record {
          within = g;
          on = r.0;
          value = i ∙ r.1;
          small = omega (
            arith,
            i ∙ r.1,
            leb-true (number v (get_or t p 0)) most (both_true (digit (get_or t p 0)) (leb (number v (get_or t p 0)) most) r.0).1,
          );
        }
    go (no g) = absurd (omega (arith, e ∙ sym (number_none t p most v (omega arith)), h))

pub digit_goes : (t : List ℕ) (p most v : ℕ) → p < length t → digit (get_or t p 0) ≡ true → number v (get_or t p 0) ≤ most
    → Goes t p most v (number v (get_or t p 0))
digit_goes t p most v h d m = record { within = h; on = rw (d, le-leb (number v (get_or t p 0)) most m); value = refl; small = m }

none_goes : (most v : ℕ) (s : List ℕ) → most ≤ 255 → 255 < number_at most v s → NoneFollows (goes_on most v) s
none_goes most v [] b h = tt
none_goes most v (c ∷ s) b h = go (goes_on most v c) refl h
  where
    go : (a : Bool) → goes_on most v c ≡ a → 255 < cond a (number v c) 256 → goes_on most v c ≡ false
    go true e g = absurd (omega (arith, leb-true (number v c) most (both_true (digit c) (leb (number v c) most) e).1))
    go false e g = e

-- ---- a number, digit by digit

module _ (t : List ℕ) (p : ℕ) where
  -- no first digit that goes on
  pub first_stops : p < length t → digit (get_or t p 0) ≡ true → {n : ℕ} → n ≡ number_at 2 0 (drop p t) → 255 < n
      → (done label : List ℕ) → read_escape done label p (drop p t) ≡ stops p
  first_stops h d {n} e b done label =
      let g : NoneFollows (goes_on 2 0) (drop p t) = none_goes 2 0 (drop p t) (omega arith) (omega (arith, e)) in
      rw (drop_next t p 0 h) (escape_stops done label p (get_or t p 0 ∷ drop (p + 1) t) (no_follow (rw (drop_next t p 0 h) at g)))
    where
      no_follow : goes_on 2 0 (get_or t p 0) ≡ false → follows (get_or t p 0) ≡ false
      no_follow g = rw d (sym (rw d) ∙ g)

  module _ (done label : List ℕ) where
    pub first_on : {n : ℕ} → Goes t p 2 0 n → read_escape done label p (drop p t) ≡ read_second n done label (p + 1) (drop (p + 1) t)
    first_on g = rw (drop_next t p 0 g.within, g.value) (escape_digit done label p (get_or t p 0) (drop (p + 1) t) g.on)

    pub second_on : {v n : ℕ} → Goes t p 25 v n → read_second v done label p (drop p t) ≡ read_third n done label (p + 1) (drop (p + 1) t)
    second_on {v} g = rw (drop_next t p 0 g.within, g.value) (read_second_lem done label p v (get_or t p 0) (drop (p + 1) t) g.on)

    pub third_on : {v n : ℕ} → Goes t p 255 v n
        → read_third v done label p (drop p t) ≡ read_on done (label ++ n ∷ []) (p + 1) (drop (p + 1) t)
    third_on {v} g = rw (drop_next t p 0 g.within, g.value) (read_third_lem done label p v (get_or t p 0) (drop (p + 1) t) g.on)

-- the second digit, and the third, do not go on
module _ (t : List ℕ) (p : ℕ) {h : ℕ} (g : Goes t p 2 0 h) where
  pub second_off : {n : ℕ} → n ≡ number_at 25 h (drop (p + 1) t) → 255 < n
      → (done label : List ℕ) → read_escape done label p (drop p t) ≡ stops (p + 1)
  second_off {n} e b done label =
      first_on t p done label g
      ∙ second_stops done label (p + 1) h (drop (p + 1) t) (none_goes 25 h (drop (p + 1) t) (omega arith) (omega (arith, e)))

  module _ {d : ℕ} (k : Goes t (p + 1) 25 h d) where
    third_from : (done label : List ℕ) → read_escape done label p (drop p t) ≡ read_third d done label (p + 2) (drop (p + 2) t)
    third_from done label =
        let q : p + 1 + 1 ≡ p + 2 = omega arith in
        rw q at (first_on t p done label g ∙ second_on t (p + 1) done label k)

    pub third_off : {n : ℕ} → n ≡ number_at 255 d (drop (p + 2) t) → 255 < n
        → (done label : List ℕ) → read_escape done label p (drop p t) ≡ stops (p + 2)
    third_off {n} e b done label =
        third_from done label
        ∙ third_stops done label (p + 2) d (drop (p + 2) t) (none_goes 255 d (drop (p + 2) t) (omega arith) (omega (arith, e)))

    pub number_ends : {n : ℕ} → Goes t (p + 2) 255 d n → EscapeEnds t p n (p + 3)
    number_ends {n} l =
        let q : p + 2 + 1 ≡ p + 3 = omega arith in
        record {
          on = omega arith;
          within = omega (arith, l.within);
          octet = omega (arith, l.small);
          reads = λ done label. rw q at (third_from done label ∙ third_on t (p + 2) done label l);
        }

-- three digits at once
module _ (t : List ℕ) (p : ℕ) (has : p + 3 ≤ length t) (da : digit (get_or t p 0) ≡ true) (db : digit (get_or t (p + 1) 0) ≡ true)
    (dc : digit (get_or t (p + 2) 0) ≡ true) where
  pub three_least : 5328 ≤ 100 * get_or t p 0 + 10 * get_or t (p + 1) 0 + get_or t (p + 2) 0
  three_least = omega (arith, digit_low (get_or t p 0) da, digit_low (get_or t (p + 1) 0) db, digit_low (get_or t (p + 2) 0) dc)

  pub three_end : {n : ℕ} → n + 5328 ≡ 100 * get_or t p 0 + 10 * get_or t (p + 1) 0 + get_or t (p + 2) 0 → n < 256
      → EscapeEnds t p n (p + 3)
  three_end {n} is small =
      let a : ℕ = get_or t p 0 in
      let b : ℕ = get_or t (p + 1) 0 in
      let c : ℕ = get_or t (p + 2) 0 in
      let la : 48 ≤ a = digit_low a da in
      let lb : 48 ≤ b = digit_low b db in
      let lc : 48 ≤ c = digit_low c dc in
      let g : Goes t p 2 0 (number 0 a) = digit_goes t p 2 0 (omega arith) da (omega arith) in
      let k : Goes t (p + 1) 25 (number 0 a) (number (number 0 a) b) =
      digit_goes t (p + 1) 25 (number 0 a) (omega arith) db (omega arith) in
      let l : Goes t (p + 2) 255 (number (number 0 a) b) (number (number (number 0 a) b) c) =
      digit_goes t (p + 2) 255 (number (number 0 a) b) (omega arith) dc (omega arith) in
      let e : number (number (number 0 a) b) c ≡ n = omega arith in
      rw e at (number_ends t p g k l)

-- ---- one character

module _ (t : List ℕ) (p : ℕ) where
  pub nothing_follows : p ≡ length t → (done label : List ℕ) → read_escape done label p (drop p t) ≡ stops p
  nothing_follows e done label = let b : length t ≤ p = omega arith in rw (drop_of_length-le t b) (escape_stops done label p [] tt)

  module _ (h : p < length t) (d : digit (get_or t p 0) ≡ false) where
    pub character_ends : printable (get_or t p 0) ≡ true → EscapeEnds t p (get_or t p 0) (p + 1)
    character_ends e =
        record {
          on = omega arith;
          within = omega arith;
          octet = printable_small (get_or t p 0) e;
          reads = λ done label. rw (drop_next t p 0 h) (escape_character done label p (get_or t p 0) (drop (p + 1) t) d e);
        }

    pub none_follows : printable (get_or t p 0) ≡ false → (done label : List ℕ) → read_escape done label p (drop p t) ≡ stops p
    none_follows e done label = rw (drop_next t p 0 h) (escape_stops done label p (get_or t p 0 ∷ drop (p + 1) t) (rw (d, e)))
