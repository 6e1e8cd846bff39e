-- Reading by words: a run of characters that stand for themselves is read at once (`read_run`), and the word that has it may be copied
-- whole, since what stands behind the open label is of no use (`open_run`).
use mathlib.Core.Path.{◌≡◌, sym, ap, ◌∙◌}
use mathlib.Core.List.{List, [], ◌∷◌, ◌++◌, append-nil, append_assoc}
use mathlib.Core.Bool.{true, ◌||◌, not}
use Prim.Native.Nat.{ℕ, zero, suc, ◌+◌, ◌-◌, ◌≤◌, ◌<◌, min}
use native.Mathlib.Omega.{arith}
use borrow.Author.Tests.{lt-ltb, not-true}
use lib.Dec.{eqb}
use lib.ListN.{length, take, drop, get_or, set, length-append, length-drop}
use lib.Seq.{take-add, drop-drop, get_or-drop, length-take-le}
use Rattle.facts.proofs.Booleans.{both_true, neither_true}
use Rattle.facts.proofs.Parts.{take_fewer, slice_take}
use Rattle.space.specs.Private.Put.{put}
use Rattle.space.specs.Private.Written.{Written}
use Rattle.space.proofs.Putting.{put_written}
use Rattle.text.specs.Characters.{dot, backslash, printable, plain}
use Rattle.text.specs.ReadText.{read_on}
use Rattle.text.proofs.ReaderSteps.{read_plain}
use Rattle.fromtext.specs.Private.Parse.{EscapeEnds, Reading, open_label}
use Rattle.fromtext.proofs.Parsing.{reading_dot, reading_escape}

-- ---- a run

read_run : (done label : List ℕ) (p n : ℕ) (s : List ℕ) → n ≤ length s → ((k : ℕ) → k < n → plain (get_or s k 0) ≡ true)
    → length label + n ≤ 63 → length done + (length label + n) ≤ 253
    → read_on done label p s ≡ read_on done (label ++ take n s) (p + n) (drop n s)
read_run done label p zero s h each small fits =
    let q : p + 0 ≡ p = omega arith in
    rw (append-nil label, q)
read_run done label p (suc n) [] h each small fits = absurd (omega arith)
read_run done label p (suc n) (c ∷ s) h each small fits =
    let b = both_true (printable c) (not (eqb c dot || eqb c backslash)) (each 0 (omega arith)) in
    let a = neither_true (eqb c dot) (eqb c backslash) (not-true _ b.1) in
    let l : length (label ++ c ∷ []) ≡ length label + 1 = length-append label (c ∷ []) in
    let q : p + 1 + n ≡ p + suc n = omega arith in
    read_plain done label p (rw (lt-ltb (length label) 63 (omega arith), lt-ltb (length done + length label) 253 (omega arith)))
    c s a.0 a.1 b.0
    ∙ read_run done (label ++ c ∷ []) (p + 1) n s (omega arith) (λ k b. each (suc k) (omega arith)) (omega arith) (omega arith)
    ∙ rw (append_assoc label (c ∷ []) (take n s), q)

module _ {t octets : List ℕ} {start size p : ℕ} (r : Reading t octets start size p) (has : p + 8 ≤ length t) {after : List ℕ}
    (is : after ≡ put octets (start + 1 + size) (take 8 (drop p t))) where
  word_length : length (take 8 (drop p t)) ≡ 8
  word_length = length-take-le 8 (drop p t) (omega (arith, length-drop p t))

  wrote : Written octets (start + 1 + size) (start + 1 + size) (take 8 (drop p t)) (start + 1 + size + 8) (start + 1 + size + 8) after
  wrote =
      put_written octets (start + 1 + size) (take 8 (drop p t)) is (omega (arith, word_length)) (omega (arith, r.array, r.fits))

  done_same : take start after ≡ take start octets
  done_same = take_fewer start (start + 1 + size) after octets (omega arith) wrote.front

  label_same : take size (drop (start + 1) after) ≡ open_label octets start size
  label_same =
      let at : ℕ = start + 1 + size in
      let d : at - (start + 1) ≡ size = omega arith in
      rw d at
      (sym (slice_take (start + 1) at after (omega arith) (omega (arith, wrote.size, r.array, r.fits)))
      ∙ ap (drop (start + 1)) wrote.front
      ∙ slice_take (start + 1) at octets (omega arith) (omega (arith, r.array, r.fits)))

  -- the open label, and behind it the run
  label_run : (n : ℕ) → n ≤ 8 → open_label after start (size + n) ≡ open_label octets start size ++ take n (drop p t)
  label_run n few =
      let at : ℕ = start + 1 + size in
      let w : at + 8 - at ≡ 8 = omega arith in
      let b : take 8 (drop at after) ≡ take 8 (drop p t) =
      rw w at (sym (slice_take at (at + 8) after (omega arith) (omega (arith, wrote.size, r.array, r.fits))) ∙ wrote.octets) in
      take-add size n (drop (start + 1) after)
      ∙ rw (drop-drop size (start + 1) after, label_same, take_fewer n 8 (drop at after) (drop p t) few b)

  reading_put : Reading t after start size p
  reading_put =
      record {
        within = r.within;
        array = wrote.size ∙ r.array;
        small = r.small;
        fits = r.fits;
        closes = r.closes;
        reads = rw (done_same, label_same) r.reads;
      }

  reading_run : (n : ℕ) → n ≤ 8 → ((k : ℕ) → k < n → plain (get_or t (p + k) 0) ≡ true) → size + n ≤ 63 → start + (size + n) ≤ 253
      → Reading t after start (size + n) (p + n)
  reading_run n few each small fits =
      record {
        within = omega arith;
        array = wrote.size ∙ r.array;
        small = small;
        fits = omega arith;
        closes = λ k. fits;
        reads =
            r.reads
            ∙ read_run (take start octets) (open_label octets start size) p n (drop p t) (omega (arith, length-drop p t))
            (λ k b. rw (get_or-drop p t k 0) (each k b)) (omega (arith, label_size_lem)) (omega (arith, label_size_lem, done_size))
            ∙ rw (done_same, label_run n few, drop-drop n p t);
      }
    where
      done_size : length (take start octets) ≡ start
      done_size = length-take-le start octets (omega (arith, r.array, r.fits))

      label_size_lem : length (open_label octets start size) ≡ size
      label_size_lem = length-take-le size (drop (start + 1) octets) (omega (arith, length-drop (start + 1) octets, r.array, r.fits))

-- ---- the open label by the indices of its first octet and of its next

-- the open label's first octet has the index `begin`, its next the index `at`, and none the index `full`
pub record Open (t octets : List ℕ) (begin at full p : ℕ) : Type 0 where
  pub behind : 1 ≤ begin
  pub size : ℕ
  pub next : begin + size ≡ at
  pub end : full ≡ min (begin + 63) 254
  pub reading : Reading t octets (begin - 1) size p

pub open_start : {t octets : List ℕ} → Reading t octets 0 0 0 → {full : ℕ} → full ≡ min 64 254 → Open t octets 1 1 full 0
open_start r e = record { behind = omega arith; size = 0; next = omega arith; end = e; reading = r }

module _ {t octets : List ℕ} {begin at full p : ℕ} (o : Open t octets begin at full p) where
  pub open_order : (1 ≤ begin) × (begin ≤ at)
  open_order = (o.behind, omega (arith, o.next))

  pub open_bounds : (at ≤ 255) × (full ≤ 254) × (length octets ≡ 263)
  open_bounds = let r = o.reading in (omega (arith, o.next, r.fits), omega (arith, o.end), r.array)

  pub open_stop : {a z q : ℕ} → (a + 1 ≡ begin) × (begin + z ≡ at) × (q ≡ p) → Reading t octets a z q
  open_stop {a} {z} {q} e =
      let b : a ≡ begin - 1 = omega (arith, e.0) in
      let s : z ≡ o.size = omega (arith, o.next, e.1) in
      rw (b, s, e.2) o.reading

  -- the index of its next octet, as `Reading` has it
  index : begin - 1 + 1 + o.size ≡ at
  index = omega (arith, o.behind, o.next)

  -- a word is put behind the open label, and nothing of it is read yet
  pub open_put : p + 8 ≤ length t → {after : List ℕ} → after ≡ put octets at (take 8 (drop p t)) → Open t after begin at full p
  open_put has is =
      record {
        behind = o.behind;
        size = o.size;
        next = o.next;
        end = o.end;
        reading = reading_put o.reading has (rw (← index) at is);
      }

  pub open_run : p + 8 ≤ length t → {after : List ℕ} → after ≡ put octets at (take 8 (drop p t)) → {n : ℕ} → n ≤ 8
      → ((k : ℕ) → k < n → plain (get_or t (p + k) 0) ≡ true) → at + n ≤ full → Open t after begin (at + n) full (p + n)
  open_run has {after} is {n} few each room =
      record {
        behind = o.behind;
        size = o.size + n;
        next = omega (arith, o.next);
        end = o.end;
        reading =
            reading_run o.reading has (rw (← index) at is) n few each (omega (arith, o.next, o.end))
            (omega (arith, o.behind, o.next, o.end));
      }

  module _ (h : p < length t) where
    pub open_escape : get_or t p 0 ≡ backslash → at < full → {x q : ℕ} → EscapeEnds t (p + 1) x q → {to : ℕ} → q ≡ to
        → Open t (set octets at x) begin (at + 1) full to
    open_escape m room {x} {q} g same =
        let small : o.size < 63 = omega (arith, o.next, o.end) in
        let fits : begin - 1 + o.size < 253 = omega (arith, o.behind, o.next, o.end) in
        record {
          behind = o.behind;
          size = o.size + 1;
          next = omega (arith, o.next);
          end = o.end;
          reading =
              rw (index, same) at
              (reading_escape o.reading h (λ d. omega (arith, m, d))
              (rw (lt-ltb o.size 63 small, lt-ltb (begin - 1 + o.size) 253 fits)) m g);
        }

    -- a dot closes the label, of z octets: its length octet stands before its first
    pub open_dot : get_or t p 0 ≡ dot → {z next f to : ℕ} → begin + z ≡ at → 1 ≤ z → next ≡ at + 1 → f ≡ min (next + 63) 254
        → to ≡ p + 1 → Open t (set octets (begin - 1) z) next next f to
    open_dot d {z} {next} {f} {to} e some n end q =
        let s : o.size ≡ z = omega (arith, o.next, e) in
        let b : begin - 1 + (z + 1) ≡ next - 1 = omega (arith, o.behind, e, n) in
        record {
          behind = omega arith;
          size = 0;
          next = omega arith;
          end = end;
          reading = rw (s, b, ← q) at (reading_dot o.reading h d (omega (arith, s, some)));
        }
