-- Measuring one label: what reading keeps as octet after octet is passed (`Along`), and where it stops.
use mathlib.Core.Path.{◌≡◌, refl, ap, ◌∙◌}
use mathlib.Core.List.{List, ◌∷◌}
use mathlib.Core.Bool.{Bool, true, false, and-false}
use Prim.Native.Nat.{ℕ, zero, suc, ◌+◌, ◌-◌, ◌*◌, ◌≤◌, ◌<◌, min}
use native.Mathlib.Numerals.{add-one}
use native.Mathlib.Omega.{arith}
use borrow.Author.Tests.{lt-ltb, ltb-true, ltb-false, eqb-true, eqb-false}
use lib.Dec.{ltb, eqb}
use lib.ListN.{length, drop, get_or, drop_of_length-le}
use native.Mathlib.Nat.{sub-zero}
use Rattle.std.proofs.lemmas.Bool.Decides.{nat_tests}
use Rattle.order.proofs.Room.{room_at, room_within}
use Rattle.order.specs.Place.{Place, at, within, room, move, legal, full}
use Rattle.key.specs.ReadKey.{Read, found, stops, before, at_end, read_key}
use Rattle.fromkey.specs.Private.KeyLabels.{sizes_in}
use Rattle.fromkey.specs.Private.Measure.{is_escape, stop_of, place_in, stop_from, StopsAt, LabelEnds}
use Rattle.key.proofs.ReaderSteps.{read_symbol, read_end, read_escape_lem, read_broken}
use Rattle.fromkey.proofs.KeySymbols.{Stands, grow_by, grow_more, sizes_octet, sizes_zero, stands_within, zero_stands}
use Rattle.fromkey.proofs.KeySymbols.{octet_stands, escape_first, escape_stands, escape_missing}

-- ---- room in a label

room_few : (n : ℕ) (q : Place) → n ≤ 1 → room n q ≡ false
room_few zero q h = refl
room_few (suc zero) q h = refl
room_few (suc (suc n)) q h = absurd (omega arith)

room_full : (n d r : ℕ) → r ≡ 0 → room n (within d r) ≡ false
room_full zero d r e = refl
room_full (suc zero) d r e = refl
room_full (suc (suc n)) d zero e = refl
room_full (suc (suc n)) d (suc r) e = absurd (omega arith)

-- with `left` symbols left before it, a label has room for 63 octets and no more than leave one symbol to close it
pub room_none : (left d size : ℕ) → min 63 (left - 1) ≤ size → room (left - size) (place_in d size) ≡ false
room_none left d zero h = room_few (left - 0) (at d) (omega arith)
room_none left d (suc size) h = go (ltb size 62) refl
  where
    go : (b : Bool) → ltb size 62 ≡ b → room (left - suc size) (within (d - 1) (62 - size)) ≡ false
    go true e = room_few (left - suc size) (within (d - 1) (62 - size)) (omega (arith, ltb-true size 62 e))
    go false e = room_full (left - suc size) (d - 1) (62 - size) (omega (arith, ltb-false size 62 e))

pub room_some : (left d size : ℕ) → left ≤ 2 * d → size < min 63 (left - 1) → room (left - size) (place_in d size) ≡ true
room_some left d zero b h = room_at (left - 0) d (omega arith) (omega arith)
room_some left d (suc size) b h = room_within (left - suc size) (d - 1) (62 - size) (omega arith) (omega arith)

move_at : (d x : ℕ) → 1 ≤ d → move (at d) x ≡ within (d - 1) 62
move_at zero x h = absurd (omega arith)
move_at (suc d) x h = ap (λ (e : ℕ). within e 62) (omega arith)

move_within : (d r s o : ℕ) → r ≡ s + 1 → move (within d r) (suc o) ≡ within d s
move_within d zero s o e = absurd (omega arith)
move_within d (suc r) s o e = ap (λ (t : ℕ). within d t) (omega arith)

pub move_on : (left d size o : ℕ) → left ≤ 2 * d → size < min 63 (left - 1) → move (place_in d size) (suc o) ≡ place_in d (size + 1)
move_on left d zero o b h = move_at d (suc o) (omega arith)
move_on left d (suc size) o b h = rw (add-one (suc size)) (move_within (d - 1) (62 - size) (62 - suc size) o (omega arith))

-- ---- one symbol

stop_before : (x : ℕ) (r : Read) → stop_of (before x r) ≡ stop_of r
stop_before x (found s) = refl
stop_before x (stops p) = refl

module _ {key : List ℕ} {p x w : ℕ} (s : Stands key p x w) (n : ℕ) (q : Place) where
  pub symbol_stops : legal full n q x ≡ false → stop_of (read_key n q p (drop p key)) ≡ suc p
  symbol_stops e = rw (s.code, read_symbol n q p x (drop (p + w) key), e)

  pub symbol_passes : legal full n q x ≡ true
      → stop_of (read_key n q p (drop p key)) ≡ stop_of (read_key (n - 1) (move q x) (p + w) (drop (p + w) key))
  symbol_passes e =
      rw (s.code, read_symbol n q p x (drop (p + w) key), e, ← s.long)
      (stop_before x (read_key (n - 1) (move q x) (p + w) (drop (p + w) key)))

pub legal_room : (n : ℕ) (q : Place) (o : ℕ) → room n q ≡ false → legal full n q (suc o) ≡ false
legal_room n q o e = rw e

pub legal_upper : (n : ℕ) (q : Place) (o : ℕ) → full o ≡ false → legal full n q (suc o) ≡ false
legal_upper n q o e = rw (e, and-false (ltb o 256), and-false (room n q))

pub legal_octet : (n : ℕ) (q : Place) (o : ℕ) → room n q ≡ true → o < 256 → full o ≡ true → legal full n q (suc o) ≡ true
legal_octet n q o r b e = rw (r, lt-ltb o 256 b, e)

-- a folded name may have the octets that are no upper-case letters
full_upper : (o : ℕ) → 65 ≤ o → o ≤ 90 → full o ≡ false
full_upper o h t = grind (arith, nat_tests)

full_other : (o : ℕ) → (65 ≤ o → o ≤ 90 → ⊥) → full o ≡ true
full_other o h = grind (arith, nat_tests)

-- ---- along a label

less_more : (left size : ℕ) → left - size - 1 ≡ left - (size + 1)
less_more left size = omega arith

small_full : (o : ℕ) → o ≤ 1 → full o ≡ true
small_full zero h = refl
small_full (suc zero) h = refl
small_full (suc (suc o)) h = absurd (omega arith)

-- from the place `from`, `size` octets are passed, and reading goes on at p
pub record Along (key : List ℕ) (from left size p : ℕ) : Type 0 where
  pub on : from ≤ p
  pub within_key : p ≤ length key
  pub started : size ≡ 0 → p < length key
  pub fits : size ≤ min 63 (left - 1)
  pub sizes : sizes_in (drop from key) ≡ grow_by size (sizes_in (drop p key))
  pub reads : (d : ℕ) → left ≤ 2 * d → stop_from key left d 0 from ≡ stop_from key left d size p

module _ {key : List ℕ} {from left size p : ℕ} (a : Along key from left size p) where
  -- no octet is left within a label
  pub along_cut : length key ≤ p → StopsAt key from left (length key)
  along_cut h d b = a.reads d b ∙ rw (drop_of_length-le key h, read_end (left - size) (place_in d size) p) (go size a.started)
    where
      go : (size : ℕ) → (size ≡ 0 → p < length key) → stop_of (at_end (place_in d size) p) ≡ suc (length key)
      go zero f = absurd (omega (arith, f refl))
      go (suc size) f = omega (arith, a.within_key)

  module _ (h : p < length key) where
    -- a label has one octet at least
    pub along_empty : get_or key p 0 ≡ 0 → size ≡ 0 → StopsAt key from left p
    along_empty z e d b = a.reads d b ∙ symbol_stops (zero_stands key p h z) (left - size) (place_in d size) (rw e)

    pub along_full : (get_or key p 0 ≡ 0 → ⊥) → min 63 (left - 1) ≤ size → StopsAt key from left p
    along_full f full d b = a.reads d b ∙ go (eqb (get_or key p 0) 1) refl
      where
        none : room (left - size) (place_in d size) ≡ false
        none = room_none left d size full

        go : (t : Bool) → eqb (get_or key p 0) 1 ≡ t → stop_from key left d size p ≡ suc p
        go true e =
            rw (
              escape_first key p h (eqb-true (get_or key p 0) 1 e),
              read_escape_lem (left - size) (place_in d size) p (drop (p + 1) key) none,
            )
        go false e =
            symbol_stops (octet_stands key p h f (eqb-false (get_or key p 0) 1 e)) (left - size) (place_in d size)
            (legal_room (left - size) (place_in d size) (get_or key p 0) none)

    pub along_upper : 65 ≤ get_or key p 0 → get_or key p 0 ≤ 90 → StopsAt key from left p
    along_upper x y d b =
        a.reads d b
        ∙ symbol_stops (octet_stands key p h (λ z. omega arith) (λ z. omega arith)) (left - size) (place_in d size)
        (legal_upper (left - size) (place_in d size) (get_or key p 0) (full_upper (get_or key p 0) x y))

    module _ (space : size < min 63 (left - 1)) where
      pub along_broken : get_or key p 0 ≡ 1 → is_escape (drop (p + 1) key) ≡ false → StopsAt key from left (p + 1)
      along_broken one e d b =
          a.reads d b
          ∙ rw (
            escape_first key p h one,
            read_broken (left - size) (place_in d size) p (drop (p + 1) key) (escape_missing key p h one e)
                (room_some left d size b space),
          )

      along_on : {o w : ℕ} → Stands key p (suc o) w → o < 256 → full o ≡ true → Along key from left (size + 1) (p + w)
      along_on {o} {w} s small e =
          record {
            on = omega arith;
            within_key = stands_within s;
            started = λ z. absurd (omega arith);
            fits = omega arith;
            sizes = a.sizes ∙ rw (s.code, sizes_octet o (drop (p + w) key)) (grow_more size (sizes_in (drop (p + w) key)));
            reads = λ d b.
                a.reads d b
                ∙ symbol_passes s (left - size) (place_in d size)
                (legal_octet (left - size) (place_in d size) o (room_some left d size b space) small e)
                ∙ rw (move_on left d size o b space, less_more left size);
          }

      pub along_octet : (get_or key p 0 ≡ 0 → ⊥) → (get_or key p 0 ≡ 1 → ⊥) → get_or key p 0 < 256
          → (65 ≤ get_or key p 0 → get_or key p 0 ≤ 90 → ⊥) → Along key from left (size + 1) (p + 1)
      along_octet f g small e = along_on (octet_stands key p h f g) small (full_other (get_or key p 0) e)

      pub along_escape : get_or key p 0 ≡ 1 → is_escape (drop (p + 1) key) ≡ true → Along key from left (size + 1) (p + 1 + 1)
      along_escape one e =
          let s = escape_stands key p h one e in
          let i : p + 1 + 1 ≡ p + 2 = omega arith in
          rw i (along_on s.2 (omega (arith, s.1)) (small_full s.0 s.1))

    pub along_ends : get_or key p 0 ≡ 0 → (size ≡ 0 → ⊥) → LabelEnds key from left size (p + 1)
    along_ends z some =
        let s : Stands key p 0 1 = zero_stands key p h z in
        record {
          some = omega arith;
          fits = omega (arith, a.fits);
          on = omega (arith, a.on);
          within_key = omega arith;
          sizes = a.sizes ∙ rw (s.code, sizes_zero (drop (p + 1) key)) (ap (λ (n : ℕ). n ∷ sizes_in (drop (p + 1) key)) (omega arith));
          reads = λ d b. a.reads d b ∙ closes size some d;
        }
      where
        closes : (size : ℕ) → (size ≡ 0 → ⊥) → (d : ℕ) → stop_from key left d size p ≡ stop_from key (left - (size + 1)) (d - 1) 0 (p + 1)
        closes zero f d = absurd (f refl)
        closes (suc size) f d =
            symbol_passes (zero_stands key p h z) (left - suc size) (place_in d (suc size)) refl
            ∙ rw (less_more left (suc size), sub-zero (left - (suc size + 1)))
