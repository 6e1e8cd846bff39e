-- What the reader finds: windows in rising order are read as their types (`windows_read`), and nothing else is read (`read_windows`). So
-- octets are read as a set exactly where they are its bitmap (`bitmap_read`, `read_bitmap`), and each set has one bitmap.
use mathlib.Core.Path.{◌≡◌, refl, sym, ap, ◌∙◌}
use mathlib.Core.List.{List, [], ◌∷◌, ◌++◌, append_assoc, append-nil}
use mathlib.Core.Bool.{Bool, true, false, cond, ◌&&◌}
use Prim.Native.Nat.{ℕ, zero, suc, ◌+◌, ◌-◌, ◌*◌, ◌≤◌}
use native.Mathlib.Omega.{arith}
use borrow.Author.Tests.{leb-true, le-leb}
use lib.Dec.{leb}
use lib.ListN.{length}
use Rattle.facts.proofs.Booleans.{both_true}
use Rattle.name.specs.Reader.{Read, found, stops}
use Rattle.name.proofs.Beginnings.{stops_not_found}
use Rattle.types.specs.Sets.{IsSet}
use Rattle.types.specs.Window.{bit_types, octet_types}
use Rattle.types.specs.Bitmap.{bitmap_of, HasBitmap}
use Rattle.types.specs.ReadTypes.{before, number_fits, count_fits, last_fits, read_number, read_count, read_octets, read_types}
use Rattle.types.proofs.Octets.{Ends}
use Rattle.types.proofs.Windows.{Windows, over, window, some_octets, windows_rise, windows_bitmap, bitmap_windows}

-- ---- what the tests tell

within_told : (a n b : ℕ) → leb a n && leb n b ≡ true → (a ≤ n) × (n ≤ b)
within_told a n b e =
    let k = both_true (leb a n) (leb n b) e in
    (leb-true a n k.0, leb-true n b k.1)

number_told : (least w : ℕ) → number_fits least w ≡ true → (least ≤ w) × (w ≤ 255)
number_told least w e = within_told least w 255 e

pub count_told : (n : ℕ) → count_fits n ≡ true → (1 ≤ n) × (n ≤ 32)
count_told n e = within_told 1 n 32 e

last_told : (o : ℕ) → last_fits o ≡ true → (1 ≤ o) × (o ≤ 255)
last_told o e = within_told 1 o 255 e

-- ---- one step

pub before_none : (r : Read) → before [] r ≡ r
before_none (found ts) = refl
before_none (stops p) = refl

pub before_append : (xs ys : List ℕ) (r : Read) → before xs (before ys r) ≡ before (xs ++ ys) r
before_append xs ys (found more) = ap found (sym (append_assoc xs ys more))
before_append xs ys (stops p) = refl

pub read_number_lem : (least p w : ℕ) (s : List ℕ) → least ≤ w → w ≤ 255 → read_number least p (w ∷ s) ≡ read_count w (p + 1) s
unfolding read_number
read_number_lem least p w s h k = rw (le-leb least w h, le-leb w 255 k)

pub read_count_lem : (w p n : ℕ) (s : List ℕ) → 1 ≤ n → n ≤ 32 → read_count w p (n ∷ s) ≡ read_octets w (256 * w) (n - 1) (p + 1) s
unfolding read_count
read_count_lem w p n s h k = rw (le-leb 1 n h, le-leb n 32 k)

pub read_last : (w first p o : ℕ) (s : List ℕ) → 1 ≤ o → o ≤ 255
    → read_octets w first 0 p (o ∷ s) ≡ before (bit_types first 8 o) (read_number (w + 1) (p + 1) s)
unfolding read_octets
read_last w first p o s h k = rw (le-leb 1 o h, le-leb o 255 k)

pub read_octet : (w first more p o : ℕ) (s : List ℕ) → o ≤ 255
    → read_octets w first (suc more) p (o ∷ s) ≡ before (bit_types first 8 o) (read_octets w (first + 8) more (p + 1) s)
unfolding read_octets
read_octet w first more p o s k = rw (le-leb o 255 k)

-- ---- windows are read

read_octets_lem : (w first more p : ℕ) (octets s : List ℕ) → length octets ≡ suc more → Ends octets
    → read_octets w first more p (octets ++ s) ≡ before (octet_types first octets) (read_number (w + 1) (p + length octets) s)
unfolding octet_types
read_octets_lem w first more p [] s e h = absurd h
read_octets_lem w first zero p (o ∷ []) s e h = rw append-nil (read_last w first p o s h.0 h.1)
read_octets_lem w first (suc more) p (o ∷ []) s e h = absurd (omega arith)
read_octets_lem w first zero p (o ∷ q ∷ octets) s e h = absurd (omega arith)
read_octets_lem w first (suc more) p (o ∷ q ∷ octets) s e h =
    let k : p + 1 + length (q ∷ octets) ≡ p + length (o ∷ q ∷ octets) = omega arith in
    read_octet w first more p o _ h.0
    ∙ ap (before (bit_types first 8 o)) (read_octets_lem w (first + 8) more (p + 1) (q ∷ octets) s (omega arith) h.1)
    ∙ rw (before_append, k)

pub read_window : (least p w : ℕ) (octets s : List ℕ) → least ≤ w → w ≤ 255 → length octets ≤ 32 → Ends octets
    → read_number least p (w ∷ length octets ∷ octets ++ s)
    ≡ before (octet_types (256 * w) octets) (read_number (w + 1) (p + 2 + length octets) s)
read_window least p w octets s a b c d =
    let n : 1 ≤ length octets = some_octets octets d in
    let e : p + 1 + 1 ≡ p + 2 = omega arith in
    read_number_lem least p w _ a b ∙ read_count_lem w (p + 1) (length octets) _ n c
    ∙ rw e (read_octets_lem w (256 * w) (length octets - 1) (p + 2) octets s (omega arith) d)

pub windows_read : {least : ℕ} {s types : List ℕ} → Windows least s types → (p : ℕ) → read_number least p s ≡ found types
unfolding read_number
windows_read (over e f) p = rw (e, f)
windows_read {least} (window w octets rest more a b c d e f k) p =
    rw (e, f) (read_window least p w octets rest a b c d ∙ rw (windows_read k (p + 2 + length octets)))

-- ---- and nothing else is

-- the octets of a window, and the windows after it
record Part (w first more : ℕ) (s types : List ℕ) : Type 0 where
  octets : List ℕ
  rest : List ℕ
  left : List ℕ
  size : length octets ≡ suc more
  ends : Ends octets
  is : s ≡ octets ++ rest
  has : types ≡ octet_types first octets ++ left
  windows : Windows (w + 1) rest left

found_before : (xs ts : List ℕ) (r : Read) → before xs r ≡ found ts → (us : List ℕ) × (r ≡ found us) × (ts ≡ xs ++ us)
found_before xs ts (found us) e = (us, refl, cc)
found_before xs ts (stops p) e = absurd (stops_not_found e)

found_test : (b : Bool) (r : Read) (p : ℕ) (ts : List ℕ) → cond b r (stops p) ≡ found ts → (b ≡ true) × (r ≡ found ts)
found_test true r p ts e = (refl, e)
found_test false r p ts e = absurd (stops_not_found e)

ends_cons : (o : ℕ) (s : List ℕ) → o ≤ 255 → Ends s → Ends (o ∷ s)
ends_cons o [] h k = absurd k
ends_cons o (p ∷ s) h k = (h, k)

mutual
  unfolding read_number read_count read_octets octet_types

  pub read_windows : (s : List ℕ) (least p : ℕ) (ts : List ℕ) → read_number least p s ≡ found ts → Windows least s ts
  read_windows [] least p ts e = let k : ts ≡ [] = cc in over refl k
  read_windows (w ∷ s) least p ts e =
      let k = found_test (number_fits least w) (read_count w (p + 1) s) _ ts e in
      let h = number_told least w k.0 in
      count_windows s w (p + 1) ts k.1 h.0 h.1

  count_windows : (s : List ℕ) (w p : ℕ) (ts : List ℕ) → read_count w p s ≡ found ts → {least : ℕ} → least ≤ w → w ≤ 255
      → Windows least (w ∷ s) ts
  count_windows [] w p ts e h k = absurd (stops_not_found e)
  count_windows (n ∷ s) w p ts e h k =
      let t = found_test (count_fits n) (read_octets w (256 * w) (n - 1) (p + 1) s) _ ts e in
      let c = count_told n t.0 in
      let q = octets_windows s w (256 * w) (n - 1) (p + 1) ts t.1 in
      let l : length q.octets ≡ n = omega (arith, q.size, c.0) in
      window w q.octets q.rest q.left h k (omega (arith, l, c.1)) q.ends
      (ap (λ (r : List ℕ). w ∷ n ∷ r) q.is ∙ ap (λ (m : ℕ). w ∷ m ∷ q.octets ++ q.rest) (sym l)) q.has q.windows

  octets_windows : (s : List ℕ) (w first more p : ℕ) (ts : List ℕ) → read_octets w first more p s ≡ found ts → Part w first more s ts
  octets_windows [] w first more p ts e = absurd (stops_not_found e)
  octets_windows (o ∷ s) w first zero p ts e =
      let n = read_number (w + 1) (p + 1) s in
      let t = found_test (last_fits o) (before (bit_types first 8 o) n) _ ts e in
      let f = found_before (bit_types first 8 o) ts n t.1 in
      record {
        octets = o ∷ [];
        rest = s;
        left = f.0;
        size = refl;
        ends = last_told o t.0;
        is = refl;
        has = rw append-nil f.2;
        windows = read_windows s (w + 1) (p + 1) f.0 f.1;
      }
  octets_windows (o ∷ s) w first (suc more) p ts e =
      let n = read_octets w (first + 8) more (p + 1) s in
      let t = found_test (leb o 255) (before (bit_types first 8 o) n) _ ts e in
      let f = found_before (bit_types first 8 o) ts n t.1 in
      let q = octets_windows s w (first + 8) more (p + 1) f.0 f.1 in
      record {
        octets = o ∷ q.octets;
        rest = q.rest;
        left = q.left;
        size = ap suc q.size;
        ends = ends_cons o q.octets (leb-true o 255 t.0) q.ends;
        is = ap (λ (r : List ℕ). o ∷ r) q.is;
        has = f.2 ∙ ap (λ (r : List ℕ). bit_types first 8 o ++ r) q.has ∙ sym (append_assoc (bit_types first 8 o) _ _);
        windows = q.windows;
      }

-- ---- bitmaps

-- the bitmap of a set is read as that set
pub bitmap_read : (types : List ℕ) → IsSet types → read_types (bitmap_of types) ≡ found types
bitmap_read types r = windows_read (bitmap_windows 256 0 r (omega arith) (omega arith)) 0

-- what is read is a set, and the octets are its bitmap
pub read_bitmap : (octets types : List ℕ) → read_types octets ≡ found types → HasBitmap types octets
read_bitmap octets types e =
    let k = read_windows octets 0 0 types e in
    record { set = windows_rise k (omega arith); is = windows_bitmap k 256 0 (omega arith) refl }

-- so that two sets with one bitmap are one
pub bitmap_injective : (types others : List ℕ) → IsSet types → IsSet others → bitmap_of types ≡ bitmap_of others → types ≡ others
bitmap_injective types others r q e = found_same (sym (bitmap_read types r) ∙ ap read_types e ∙ bitmap_read others q)
  where
    found_same : found types ≡ found others → types ≡ others
    found_same k = cc
