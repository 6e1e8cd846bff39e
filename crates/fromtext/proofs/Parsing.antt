-- Reading a text into octets: what holds at a place (`Reading`): the front of the octets is what the reader has done, and behind a free
-- octet stands the open label.
use mathlib.Core.Path.{◌≡◌, refl, sym, ap, ◌∙◌}
use mathlib.Core.List.{List, [], ◌∷◌, ◌++◌}
use mathlib.Core.Bool.{true, false, ◌||◌, not, true≢false}
use Prim.Native.Nat.{ℕ, ◌+◌, ◌-◌, ◌≤◌, ◌<◌, min}
use native.Mathlib.Numerals.{add-one}
use native.Mathlib.Omega.{arith}
use borrow.Author.Tests.{ne_eqb, eq-eqb, ltb-true, lt-ltb, not-true}
use lib.Dec.{eqb, ltb}
use lib.ListN.{length, take, drop, get_or, set, length-set, length-drop, drop_of_length-le}
use lib.Seq.{length-take-le, take-set-le, drop-set-add, take-suc-set, set_split}
use Rattle.facts.proofs.Booleans.{both_true, neither_true}
use Rattle.facts.proofs.Lists.{drop_next}
use Rattle.facts.proofs.Parts.{take_append_more}
use Rattle.name.specs.Reader.{found, stops}
use Rattle.text.specs.Characters.{dot, backslash, printable, plain}
use Rattle.text.specs.ReadText.{fits_in, fits, close, at_end, read_on, read_escape, read_text}
use Rattle.fromtext.specs.Private.Parse.{EscapeEnds, Reading, open_label}
use Rattle.text.proofs.ReaderSteps.{read_dot, read_full, read_escape_lem, read_plain, read_none}
use Rattle.text.proofs.ReaderFinds.{dot_some}

-- where an octet fits, there is an index for it
pub room_index : (start size : ℕ) → fits_in start size ≡ true → start + 1 + size < 263
room_index start size f = omega (arith, ltb-true (start + size) 253 (both_true (ltb size 63) (ltb (start + size) 253) f).1)

-- ---- texts that are read at once

pub nothing_stops : (t : List ℕ) → length t ≡ 0 → read_text t ≡ stops 0
nothing_stops [] e = refl
nothing_stops (c ∷ t) e = absurd (omega arith)

pub root_stops : (t : List ℕ) → get_or t 0 0 ≡ dot → 1 < length t → read_text t ≡ stops 1
root_stops [] e h = absurd (omega arith)
root_stops (c ∷ []) e h = absurd (omega arith)
root_stops (c ∷ d ∷ t) e h = rw e

pub root_whole : (t octets : List ℕ) → get_or t 0 0 ≡ dot → 1 ≤ length t → length t ≤ 1 → 1 ≤ length octets
    → read_text t ≡ found (take 1 (set octets 0 0))
root_whole [] octets e h k b = absurd (omega arith)
root_whole (c ∷ d ∷ t) octets e h k b = absurd (omega arith)
root_whole (c ∷ []) [] e h k b = absurd (omega arith)
root_whole (c ∷ []) (o ∷ octets) e h k b = rw e

-- ---- and the others, place by place

pub reading_start : (t octets : List ℕ) → 1 ≤ length t → (get_or t 0 0 ≡ dot → ⊥) → length octets ≡ 263 → Reading t octets 0 0 0
reading_start [] octets h n e = absurd (omega arith)
reading_start (c ∷ t) octets h n e =
    record {
      within = omega arith;
      array = e;
      small = omega arith;
      fits = omega arith;
      closes = λ k. omega arith;
      reads = rw (ne_eqb c dot n);
    }

module _ {t octets : List ℕ} {start size p : ℕ} (r : Reading t octets start size p) where
  done_length : length (take start octets) ≡ start
  done_length = length-take-le start octets (omega (arith, r.array, r.fits))

  label_length : length (open_label octets start size) ≡ size
  label_length = length-take-le size (drop (start + 1) octets) (omega (arith, length-drop (start + 1) octets, r.array, r.fits))

  -- the label's length octet is stored
  closed_front : close (take start octets) (open_label octets start size) ≡ take (start + (size + 1)) (set octets start size)
  closed_front =
      ap (λ (k : ℕ). take start octets ++ k ∷ open_label octets start size) label_length
      ∙ sym (take_append_more (take start octets) (drop (start + 1) octets) size start size done_length)
      ∙ sym (rw (add-one start)
      (ap (λ (x : List ℕ). take (start + (size + 1)) x) (set_split octets start size (omega (arith, r.array, r.fits)))))

  -- at the text's end
  module _ (h : length t ≤ p) where
    pub reading_cut : 0 < size → read_text t ≡ stops (length t)
    unfolding read_on
    reading_cut some =
        let e : p ≡ length t = omega (arith, r.within) in
        r.reads ∙ rw (drop_of_length-le t h) (at_end_lem (open_label octets start size) (omega (arith, label_length)) ∙ ap stops e)
      where
        at_end_lem : (l : List ℕ) → 1 ≤ length l → at_end (take start octets) l p ≡ stops p
        at_end_lem [] k = absurd (omega arith)
        at_end_lem (o ∷ l) k = refl

    pub reading_whole : size ≤ 0 → read_text t ≡ found (take (start + 1) (set octets start 0))
    unfolding read_on
    reading_whole none =
        let z : size ≡ 0 = omega arith in
        r.reads
        ∙ rw (drop_of_length-le t h, z, add-one start, take-suc-set octets start 0 (omega (arith, r.array, r.fits)))

  -- a character stands at the place
  module _ (h : p < length t) where
    here : drop p t ≡ get_or t p 0 ∷ drop (p + 1) t
    here = drop_next t p 0 h

    reads_here : read_text t ≡ read_on (take start octets) (open_label octets start size) p (get_or t p 0 ∷ drop (p + 1) t)
    reads_here = r.reads ∙ ap (read_on (take start octets) (open_label octets start size) p) here

    pub reading_two_dots : get_or t p 0 ≡ dot → size ≡ 0 → read_text t ≡ stops p
    reading_two_dots c z =
        reads_here
        ∙ rw (c, z) (read_dot (take start octets) [] p (drop (p + 1) t))

    -- a dot closes the label: its length octet is stored
    pub reading_dot : get_or t p 0 ≡ dot → 1 ≤ size → Reading t (set octets start size) (start + (size + 1)) 0 (p + 1)
    reading_dot c some =
        record {
          within = omega arith;
          array = simp length-set r.array;
          small = omega arith;
          fits = omega (arith, r.closes some);
          closes = λ k. absurd (omega arith);
          reads =
              reads_here
              ∙ ap (λ (x : ℕ). read_on (take start octets) (open_label octets start size) p (x ∷ drop (p + 1) t)) c
              ∙ read_dot (take start octets) (open_label octets start size) p (drop (p + 1) t)
              ∙ dot_some (open_label octets start size) p (read_on (close (take start octets) (open_label octets start size)) [] (p + 1)
              (drop (p + 1) t)) (omega (arith, label_length))
              ∙ ap (λ (d : List ℕ). read_on d [] (p + 1) (drop (p + 1) t)) closed_front;
        }

    module _ (n : get_or t p 0 ≡ dot → ⊥) where
      pub reading_full : fits_in start size ≡ false → read_text t ≡ stops p
      reading_full f =
          reads_here
          ∙ read_full (take start octets) (open_label octets start size) p (get_or t p 0) (drop (p + 1) t) (ne_eqb (get_or t p 0) dot n)
          (rw (done_length, label_length) f)

      module _ (f : fits_in start size ≡ true) where
        open_fits : fits (take start octets) (open_label octets start size) ≡ true
        open_fits = rw (done_length, label_length) f

        fit : (size < 63) × (start + size < 253)
        fit = let b = both_true (ltb size 63) (ltb (start + size) 253) f in (ltb-true size 63 b.0, ltb-true (start + size) 253 b.1)

        -- an octet is stored behind the label
        reading_octet : (o q : ℕ) → q ≤ length t
            → read_on (take start octets) (open_label octets start size) p (drop p t)
            ≡ read_on (take start octets) (open_label octets start size ++ o ∷ []) q (drop q t)
            → Reading t (set octets (start + 1 + size) o) start (size + 1) q
        reading_octet o q b e =
            let d : take start (set octets (start + 1 + size) o) ≡ take start octets =
            take-set-le start octets (start + 1 + size) o (omega arith) in
            let l : open_label (set octets (start + 1 + size) o) start (size + 1) ≡ open_label octets start size ++ o ∷ [] =
            rw (drop-set-add (start + 1) octets size o, add-one size)
            (take-suc-set (drop (start + 1) octets) size o (omega (arith, length-drop (start + 1) octets, r.array, fit))) in
            record {
              within = b;
              array = simp length-set r.array;
              small = omega (arith, fit);
              fits = omega (arith, fit);
              closes = λ k. omega (arith, fit);
              reads = rw (d, l) (r.reads ∙ e);
            }

        module _ (m : get_or t p 0 ≡ backslash → ⊥) where
          pub reading_none : printable (get_or t p 0) ≡ false → read_text t ≡ stops p
          reading_none e =
              reads_here
              ∙ read_none (take start octets) (open_label octets start size) p open_fits (get_or t p 0) (drop (p + 1) t)
              (ne_eqb (get_or t p 0) dot n) (ne_eqb (get_or t p 0) backslash m) e

          pub reading_plain : printable (get_or t p 0) ≡ true
              → Reading t (set octets (start + 1 + size) (get_or t p 0)) start (size + 1) (p + 1)
          reading_plain e =
              reading_octet (get_or t p 0) (p + 1) (omega arith)
              (ap (read_on (take start octets) (open_label octets start size) p) here
              ∙ read_plain (take start octets) (open_label octets start size) p open_fits (get_or t p 0) (drop (p + 1) t)
              (ne_eqb (get_or t p 0) dot n) (ne_eqb (get_or t p 0) backslash m) e)

        module _ (m : get_or t p 0 ≡ backslash) where
          -- behind a backslash
          reads_escape : read_on (take start octets) (open_label octets start size) p (drop p t)
              ≡ read_escape (take start octets) (open_label octets start size) (p + 1) (drop (p + 1) t)
          reads_escape =
              ap (read_on (take start octets) (open_label octets start size) p) (here ∙ ap (λ (x : ℕ). x ∷ drop (p + 1) t) m)
              ∙ read_escape_lem (take start octets) (open_label octets start size) p open_fits (drop (p + 1) t)

          pub reading_no_escape : {q : ℕ} → ((done label : List ℕ) → read_escape done label (p + 1) (drop (p + 1) t) ≡ stops q)
              → read_text t ≡ stops q
          reading_no_escape g = r.reads ∙ reads_escape ∙ g (take start octets) (open_label octets start size)

          pub reading_escape : {o q : ℕ} → EscapeEnds t (p + 1) o q → Reading t (set octets (start + 1 + size) o) start (size + 1) q
          reading_escape {o} {q} g =
              reading_octet o q g.within (reads_escape ∙ g.reads (take start octets) (open_label octets start size))

    -- a character that stands for itself is stored where the label has room for it
    pub reading_marked : plain (get_or t p 0) ≡ true → {most : ℕ} → most ≡ min 63 (253 - start) → size < most
        → Reading t (set octets (start + (size + 1)) (get_or t p 0)) start (size + 1) (p + 1)
    reading_marked e {most} is room =
        let c : ℕ = get_or t p 0 in
        let b = both_true (printable c) (not (eqb c dot || eqb c backslash)) e in
        let n = neither_true (eqb c dot) (eqb c backslash) (not-true _ b.1) in
        let index : start + 1 + size ≡ start + (size + 1) = omega arith in
        rw index at
        (reading_plain (λ z. true≢false (sym (eq-eqb c dot z) ∙ n.0))
        (rw (lt-ltb size 63 (omega arith), lt-ltb (start + size) 253 (omega arith)))
        (λ z. true≢false (sym (eq-eqb c backslash z) ∙ n.1)) b.0)
