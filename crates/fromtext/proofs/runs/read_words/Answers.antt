-- `read_words` meets its contract: each place knows the open label's first octet and its next (`Open`), and a word's run is read at once.
use mathlib.Core.Bool.{true}
use mathlib.Core.List.{List}
use mathlib.Core.Path.{◌≡◌, refl, sym, ◌∙◌}
use Prim.Native.Nat.{ℕ, ◌+◌, ◌/◌, ◌%◌, ◌^◌, ◌≤◌, ◌<◌}
use native.Mathlib.Omega.{arith}
use lib.Count.{count_trailing_zeros, trailing_le, trailing_of_zero}
use lib.ListN.{length, drop, get_or, length-drop}
use lib.Seq.{get_or-drop}
use Rattle.facts.proofs.Parts.{part_rest}
use Rattle.text.specs.Characters.{plain}
use Rattle.words.specs.Private.Stops.{stop_marks}
use Rattle.words.specs.Private.Word.{word_at}
use Rattle.words.proofs.Octets.{word_first}
use Rattle.words.proofs.Runs.{zeros_lt, stops_run}
use Rattle.fromtext.proofs.Escapes.{character_ends}
use Rattle.fromtext.proofs.PlainRuns.{Open, open_start, open_order, open_bounds, open_put, open_run, open_stop, open_escape, open_dot}
use Rattle.fromtext.proofs.runs.read_words.Goals as goal

-- ---- the word w at the place p of a text of octets

module _ (t : List ℕ) (p : ℕ) (has : p + 8 ≤ length t) (octets : (i : ℕ) → get_or t i 0 < 256) {w : ℕ}
    (word_is : w ≡ word_at (drop p t)) where
  rest_has : 8 ≤ length (drop p t)
  rest_has = omega (arith, length-drop p t, has)

  rest_octet : (i : ℕ) → get_or (drop p t) i 0 < 256
  rest_octet i = rw (get_or-drop p t i 0) (octets (p + i))

  -- the character at a backslash
  first : w % 256 ≡ 92 → get_or t p 0 ≡ 92
  first e =
      let z : p + 0 ≡ p = omega arith in
      rw z at (sym (get_or-drop p t 0 0) ∙ sym (word_first (drop p t) rest_has rest_octet) ∙ rw word_is at e)

  -- the characters before the first mark stand for themselves
  run : {m : ℕ} → m ≡ stop_marks w → (k : ℕ) → k < count_trailing_zeros 64 m / 8 → plain (get_or t (p + k) 0) ≡ true
  run e k h = rw (get_or-drop p t k 0) at (stops_run (drop p t) rest_has rest_octet k (rw (e, word_is) at h))

-- so many characters are before the first mark, and where there is one, it is in the word
few : (m : ℕ) → count_trailing_zeros 64 m / 8 ≤ 8
few m = omega (arith, trailing_le 64 m)

fewer : {m : ℕ} → (m ≡ 0 → ⊥) → m < 2 ^ 64 → count_trailing_zeros 64 m / 8 < 8
fewer {m} some small = omega (arith, zeros_lt 64 m (omega arith) small)

-- where the open label has room for the characters before the first mark: the indices of its octets
room : {t octets : List ℕ} {begin at full p : ℕ} (m : ℕ) → Open t octets begin at full p → at + count_trailing_zeros 64 m / 8 ≤ full
    → (1 ≤ begin) × (begin ≤ at) × (at + count_trailing_zeros 64 m / 8 ≤ begin + 63) × (at + count_trailing_zeros 64 m / 8 ≤ 254)
room m o h = (o.behind, (open_order o).1, omega (arith, o.end), omega (arith, o.end))

-- a run and the dot behind it fit the open label, which the sums and indices below rest on too
pub loop-p-preserved-else-k-eq0 : goal.loop-p-preserved-else-k-eq0
loop-p-preserved-else-k-eq0 c =
    let r = room c.stops-m.result c.loop-p.invariant.1 (omega arith) in (
      c.loop-p.invariant.0,
      open_dot (open_run c.loop-p.invariant.1 (omega arith) c.put_word.ensures (few _)
          (run c.args.text.now c.loop-p.p (omega arith) (λ i. omega (arith, c.type_inv.text i))
          (rw (part_rest _ _) at c.word-w.ensures) c.stops-m.ensures) (omega arith))
          (omega (arith, fewer c.if-m-eq0.false (omega arith))) c.if-text-p-eq46.true (omega (arith, r))
          (omega (arith, r, c.if-k-eq0.false)) (omega arith) c.label_end-full-else-k-eq0.ensures (omega arith),
    )

pub stop_at-requires-then-at-open : goal.stop_at-requires-then-at-open
stop_at-requires-then-at-open c = open_order (open_put c.loop-p.invariant.1 (omega arith) c.put_word.ensures)

pub returns-then-at-open : goal.returns-then-at-open
returns-then-at-open c = open_stop (open_put c.loop-p.invariant.1 (omega arith) c.put_word.ensures) c.stop_at-then-at-open.ensures

pub overflow_sub-octets : goal.overflow_sub-octets
overflow_sub-octets c = omega (arith, room c.stops-m.result c.loop-p.invariant.1 (omega arith), fewer c.if-m-eq0.false (omega arith))

pub overflow_cast-octets-then-k-eq0 : goal.overflow_cast-octets-then-k-eq0
overflow_cast-octets-then-k-eq0 c =
    omega (arith, room c.stops-m.result c.loop-p.invariant.1 (omega arith), fewer c.if-m-eq0.false (omega arith))

pub overflow_sub-octets-then-k-eq0 : goal.overflow_sub-octets-then-k-eq0
overflow_sub-octets-then-k-eq0 c =
    omega (arith, room c.stops-m.result c.loop-p.invariant.1 (omega arith), fewer c.if-m-eq0.false (omega arith))

pub bounds-octets-open : goal.bounds-octets-open
bounds-octets-open c = omega (arith, room c.stops-m.result c.loop-p.invariant.1 (omega arith), fewer c.if-m-eq0.false (omega arith))

pub overflow_add-at-then-k-eq0 : goal.overflow_add-at-then-k-eq0
overflow_add-at-then-k-eq0 c = omega (arith, room c.stops-m.result c.loop-p.invariant.1 (omega arith), fewer c.if-m-eq0.false (omega arith))

pub overflow_add-p-then-k-eq0 : goal.overflow_add-p-then-k-eq0
overflow_add-p-then-k-eq0 c = omega (arith, room c.stops-m.result c.loop-p.invariant.1 (omega arith), fewer c.if-m-eq0.false (omega arith))

pub loop-p-smaller-then-k-eq0 : goal.loop-p-smaller-then-k-eq0
loop-p-smaller-then-k-eq0 c = omega (arith, room c.stops-m.result c.loop-p.invariant.1 (omega arith), fewer c.if-m-eq0.false (omega arith))

pub loop-p-preserved-then-k-eq0 : goal.loop-p-preserved-then-k-eq0
loop-p-preserved-then-k-eq0 c =
    let r = room c.stops-m.result c.loop-p.invariant.1 (omega arith) in
    let z = c.if-k-eq0.true in (
      c.loop-p.invariant.0,
      open_dot (open_run c.loop-p.invariant.1 (omega arith) c.put_word.ensures (few _)
          (run c.args.text.now c.loop-p.p (omega arith) (λ i. omega (arith, c.type_inv.text i))
          (rw (part_rest _ _) at c.word-w.ensures) c.stops-m.ensures) (omega arith))
          (omega (arith, fewer c.if-m-eq0.false (omega arith))) c.if-text-p-eq46.true (omega (arith, r, z))
          (omega (arith, r, c.if-at-open.false)) (omega (arith, z)) c.label_end-full-then-k-eq0.ensures (omega (arith, z)),
    )

pub overflow_sub-octets-else-k-eq0 : goal.overflow_sub-octets-else-k-eq0
overflow_sub-octets-else-k-eq0 c =
    omega (arith, room c.stops-m.result c.loop-p.invariant.1 (omega arith), fewer c.if-m-eq0.false (omega arith))

pub overflow_cast-octets-else-k-eq0 : goal.overflow_cast-octets-else-k-eq0
overflow_cast-octets-else-k-eq0 c =
    omega (arith, room c.stops-m.result c.loop-p.invariant.1 (omega arith), fewer c.if-m-eq0.false (omega arith))

pub overflow_sub-octets-else-k-eq0-2 : goal.overflow_sub-octets-else-k-eq0-2
overflow_sub-octets-else-k-eq0-2 c =
    omega (arith, room c.stops-m.result c.loop-p.invariant.1 (omega arith), fewer c.if-m-eq0.false (omega arith))

pub bounds-octets-open-else-k-eq0 : goal.bounds-octets-open-else-k-eq0
bounds-octets-open-else-k-eq0 c =
    omega (arith, room c.stops-m.result c.loop-p.invariant.1 (omega arith), fewer c.if-m-eq0.false (omega arith))

pub overflow_add-at-else-k-eq0 : goal.overflow_add-at-else-k-eq0
overflow_add-at-else-k-eq0 c = omega (arith, room c.stops-m.result c.loop-p.invariant.1 (omega arith), fewer c.if-m-eq0.false (omega arith))

pub overflow_add-p-else-k-eq0 : goal.overflow_add-p-else-k-eq0
overflow_add-p-else-k-eq0 c = omega (arith, room c.stops-m.result c.loop-p.invariant.1 (omega arith), fewer c.if-m-eq0.false (omega arith))

pub overflow_add-p-else-k-eq0-2 : goal.overflow_add-p-else-k-eq0-2
overflow_add-p-else-k-eq0-2 c =
    omega (arith, room c.stops-m.result c.loop-p.invariant.1 (omega arith), fewer c.if-m-eq0.false (omega arith))

pub loop-p-smaller-else-k-eq0 : goal.loop-p-smaller-else-k-eq0
loop-p-smaller-else-k-eq0 c = omega (arith, room c.stops-m.result c.loop-p.invariant.1 (omega arith), fewer c.if-m-eq0.false (omega arith))

pub stop_at-requires : goal.stop_at-requires
stop_at-requires c = (omega arith, omega arith)

pub returns-then-text-lt8 : goal.returns-then-text-lt8
returns-then-text-lt8 c = open_stop (open_start c.requires refl) c.stop_at.ensures

pub overflow_sub-last : goal.overflow_sub-last
overflow_sub-last c = c.if-text-lt8.false

pub loop-p-init : goal.loop-p-init
loop-p-init c = (omega arith, open_start c.requires c.label_end-full.ensures)

pub slice_bounds-word-count : goal.slice_bounds-word-count
slice_bounds-word-count c = omega (arith, c.loop-p.invariant.0)

pub stop_at-requires-then-full-at : goal.stop_at-requires-then-full-at
stop_at-requires-then-full-at c = open_order c.loop-p.invariant.1

pub returns-then-full-at : goal.returns-then-full-at
returns-then-full-at c = open_stop c.loop-p.invariant.1 c.stop_at-then-full-at.ensures

pub bounds-octets-at : goal.bounds-octets-at
bounds-octets-at c = omega (arith, c.if-full-at.false, open_bounds c.loop-p.invariant.1)

pub overflow_add-at : goal.overflow_add-at
overflow_add-at c = omega (arith, open_bounds c.loop-p.invariant.1)

pub loop-p-preserved-then-octet-lt256 : goal.loop-p-preserved-then-octet-lt256
loop-p-preserved-then-octet-lt256 c = (
  c.loop-p.invariant.0,
  open_escape c.loop-p.invariant.1 (omega arith)
      (first c.args.text.now c.loop-p.p (omega arith) (λ i. omega (arith, c.type_inv.text i))
      (rw (part_rest _ _) at c.word-w.ensures) c.if-w-eq92.true) c.if-full-at.false
      (c.three_digits-octet.ensures c.if-octet-lt256.true) (omega arith),
)

pub stop_at-requires-then-is_digit : goal.stop_at-requires-then-is_digit
stop_at-requires-then-is_digit c = open_order c.loop-p.invariant.1

pub returns-then-is_digit : goal.returns-then-is_digit
returns-then-is_digit c = open_stop c.loop-p.invariant.1 c.stop_at-then-is_digit.ensures

pub stop_at-requires-then-not-is_printable : goal.stop_at-requires-then-not-is_printable
stop_at-requires-then-not-is_printable c = open_order c.loop-p.invariant.1

pub returns-then-not-is_printable : goal.returns-then-not-is_printable
returns-then-not-is_printable c = open_stop c.loop-p.invariant.1 c.stop_at-then-not-is_printable.ensures

pub bounds-octets-at-else-octet-lt256 : goal.bounds-octets-at-else-octet-lt256
bounds-octets-at-else-octet-lt256 c = omega (arith, c.if-full-at.false, open_bounds c.loop-p.invariant.1)

pub overflow_add-at-else-octet-lt256 : goal.overflow_add-at-else-octet-lt256
overflow_add-at-else-octet-lt256 c = omega (arith, open_bounds c.loop-p.invariant.1)

pub loop-p-preserved-else-octet-lt256 : goal.loop-p-preserved-else-octet-lt256
loop-p-preserved-else-octet-lt256 c = (
  c.loop-p.invariant.0,
  open_escape c.loop-p.invariant.1 (omega arith)
      (first c.args.text.now c.loop-p.p (omega arith) (λ i. omega (arith, c.type_inv.text i))
      (rw (part_rest _ _) at c.word-w.ensures) c.if-w-eq92.true) c.if-full-at.false
      (character_ends _ _ (omega arith) (sym c.is_digit.ensures ∙ c.if-is_digit.false)
      (sym c.is_printable.ensures ∙ c.if-not-is_printable.false)) (omega arith),
)

pub put_word-requires : goal.put_word-requires
put_word-requires c = let b = open_bounds c.loop-p.invariant.1 in (b.2, omega (arith, b), omega arith)

pub overflow_add-at-then-m-eq0 : goal.overflow_add-at-then-m-eq0
overflow_add-at-then-m-eq0 c = omega (arith, open_bounds c.loop-p.invariant.1)

pub stop_at-requires-then-full-at-2 : goal.stop_at-requires-then-full-at-2
stop_at-requires-then-full-at-2 c = open_order c.loop-p.invariant.1

pub returns-then-full-at-2 : goal.returns-then-full-at-2
returns-then-full-at-2 c = open_stop (open_put c.loop-p.invariant.1 (omega arith) c.put_word.ensures) c.stop_at-then-full-at-2.ensures

pub overflow_add-at-then-m-eq0-2 : goal.overflow_add-at-then-m-eq0-2
overflow_add-at-then-m-eq0-2 c = omega (arith, open_bounds c.loop-p.invariant.1)

pub loop-p-preserved-then-m-eq0 : goal.loop-p-preserved-then-m-eq0
loop-p-preserved-then-m-eq0 c = (
  c.loop-p.invariant.0,
  open_run c.loop-p.invariant.1 (omega arith) c.put_word.ensures (omega arith)
      (λ k h. run c.args.text.now c.loop-p.p (omega arith) (λ i. omega (arith, c.type_inv.text i))
      (rw (part_rest _ _) at c.word-w.ensures) c.stops-m.ensures k (rw (c.if-m-eq0.true, trailing_of_zero 64) h)) c.if-full-at-2.false,
)

pub overflow_cast-k : goal.overflow_cast-k
overflow_cast-k c = omega (arith, few c.stops-m.result)

pub overflow_add-end : goal.overflow_add-end
overflow_add-end c = omega (arith, few c.stops-m.result, open_bounds c.loop-p.invariant.1)

pub stop_at-requires-then-full-end : goal.stop_at-requires-then-full-end
stop_at-requires-then-full-end c = open_order c.loop-p.invariant.1

pub returns-then-full-end : goal.returns-then-full-end
returns-then-full-end c = open_stop (open_put c.loop-p.invariant.1 (omega arith) c.put_word.ensures) c.stop_at-then-full-end.ensures

pub overflow_add-p-else-m-eq0 : goal.overflow_add-p-else-m-eq0
overflow_add-p-else-m-eq0 c = omega (arith, room c.stops-m.result c.loop-p.invariant.1 (omega arith), fewer c.if-m-eq0.false (omega arith))

pub bounds-text-p-else-m-eq0 : goal.bounds-text-p-else-m-eq0
bounds-text-p-else-m-eq0 c = omega (arith, fewer c.if-m-eq0.false (omega arith))

pub stop_at-requires-then-k-eq0-2 : goal.stop_at-requires-then-k-eq0-2
stop_at-requires-then-k-eq0-2 c = open_order (open_put c.loop-p.invariant.1 (omega arith) c.put_word.ensures)

pub returns-then-k-eq0-2 : goal.returns-then-k-eq0-2
returns-then-k-eq0-2 c = open_stop (open_put c.loop-p.invariant.1 (omega arith) c.put_word.ensures) c.stop_at-then-k-eq0-2.ensures

pub overflow_add-p-else-text-p-eq46 : goal.overflow_add-p-else-text-p-eq46
overflow_add-p-else-text-p-eq46 c =
    omega (arith, room c.stops-m.result c.loop-p.invariant.1 (omega arith), fewer c.if-m-eq0.false (omega arith))

pub loop-p-smaller : goal.loop-p-smaller
loop-p-smaller c =
    omega (arith, room c.stops-m.result c.loop-p.invariant.1 (omega arith), fewer c.if-m-eq0.false (omega arith), c.if-k-eq0-2.false)

pub loop-p-preserved : goal.loop-p-preserved
loop-p-preserved c = (
  c.loop-p.invariant.0,
  open_run c.loop-p.invariant.1 (omega arith) c.put_word.ensures (few _)
      (run c.args.text.now c.loop-p.p (omega arith) (λ i. omega (arith, c.type_inv.text i))
      (rw (part_rest _ _) at c.word-w.ensures) c.stops-m.ensures) (omega arith),
)

pub stop_at-requires-2 : goal.stop_at-requires-2
stop_at-requires-2 c = open_order c.loop-p.invariant.1

pub returns : goal.returns
returns c = open_stop c.loop-p.invariant.1 c.stop_at-2.ensures
