-- Types written into a list: those of an octet one by one, from the highest bit on (`bits_more`), those of octets (`Octeted`), and those of
-- windows (`Listed`). At each step what is left is what `Partly` says.
use mathlib.Core.Path.{◌≡◌, refl, ap}
use mathlib.Core.List.{List, [], ◌∷◌, ◌++◌}
use Prim.Native.Nat.{ℕ, suc, ◌+◌, ◌-◌, ◌*◌, ◌/◌, ◌^◌, ◌≤◌, ◌<◌}
use native.Mathlib.Omega.{arith}
use lib.Count.{count_leading_zeros}
use lib.ListN.{length, take, drop, get_or, set, length-append}
use lib.Pow.{pow_pos}
use Rattle.facts.proofs.Lists.{drop_next}
use Rattle.space.specs.Octets.{overlay}
use Rattle.space.specs.Private.Written.{Written}
use Rattle.space.proofs.Written.{written_octet, written_front, Partly, partly_none, partly_size, partly_more, partly_all}
use Rattle.types.specs.Window.{bit_types, octet_types}
use Rattle.types.proofs.Bits.{half_bits, bits_none}
use Rattle.types.proofs.Zeros.{bits_first}
use Rattle.fromtypes.specs.Private.Checked.{types_of, IsRead}
use Rattle.fromtypes.proofs.Rests.{Rest, Window, octets_at, rest_start, rest_window, rest_end}

-- ---- the bits of an octet

-- the types of the bits that are left are not written yet
pub record Bits (before : List ℕ) (at octet first : ℕ) (after : List ℕ) (left k : ℕ) : Type 0 where
  pub low : left < 256
  pub part : Partly before at (bit_types first 8 octet) (bit_types first 8 left) k k after

pub bits_start : (d : List ℕ) (at octet first : ℕ) → octet < 256 → at + length (bit_types first 8 octet) ≤ length d
    → Bits d at octet first d octet at
bits_start d at octet first o h = record { low = o; part = partly_none d at (bit_types first 8 octet) h (omega arith) (omega arith) }

module _ {d : List ℕ} {at octet first : ℕ} {e : List ℕ} {left k : ℕ} (b : Bits d at octet first e left k) (h : left ≡ 0 → ⊥) where
  abbrev z : ℕ
  z = count_leading_zeros 8 left

  pub bits_told : (z ≤ 7) × (128 / 2 ^ z ≤ left) × (bit_types first 8 left ≡ (first + z) ∷ bit_types first 8 (left - 128 / 2 ^ z))
  bits_told =
      let t = bits_first first left z (omega arith) (omega (arith, b.low)) refl in
      rw (half_bits z t.0) t

  pub bits_some : 1 ≤ 128 / 2 ^ z
  bits_some = rw (half_bits z bits_told.0) (pow_pos (7 - z))

  pub bits_room : k < length e
  bits_room =
      let t = bits_told in
      omega (arith, ap length t.2, partly_size b.part, b.part.fits, b.part.written.size)

  pub bits_more : Bits d at octet first (set e k (first + z)) (left - 128 / 2 ^ z) (k + 1)
  bits_more =
      let t = bits_told in
      record {
        low = omega (arith, b.low);
        part = partly_more b.part ((first + z) ∷ []) t.2 (written_octet e k (first + z) refl bits_room) (omega arith);
      }

pub bits_all : {d : List ℕ} {at octet first : ℕ} {e : List ℕ} {left k : ℕ} → Bits d at octet first e left k → left ≡ 0
    → Written d at at (bit_types first 8 octet) k k e
bits_all {first = first} b h = partly_all b.part (rw h (bits_none first 8))

-- ---- the octets of a window

pub record Octeted (before : List ℕ) (at : ℕ) (s : List ℕ) (from n first : ℕ) (after : List ℕ) (k i : ℕ) : Type 0 where
  pub within : i ≤ n
  pub part : Partly before at (octet_types first (take n (drop from s))) (octet_types (first + 8 * i) (take (n - i) (drop (from + i) s)))
      k k after

pub octeted_none : (d : List ℕ) (at : ℕ) (s : List ℕ) (from n first : ℕ) → at + length (octet_types first (take n (drop from s))) ≤ length d
    → Octeted d at s from n first d at 0
octeted_none d at s from n first h =
    let e : from + 0 ≡ from = omega arith in
    let f : n - 0 ≡ n = omega arith in
    let g : first + 8 * 0 ≡ first = omega arith in
    record { within = omega arith; part = rw (e, f, g) (partly_none d at _ h (omega arith) (omega arith)) }

module _ {d : List ℕ} {at : ℕ} {s : List ℕ} {from n first : ℕ} {e : List ℕ} {k i : ℕ} (o : Octeted d at s from n first e k i) where
  abbrev next : List ℕ
  next = bit_types (first + 8 * i) 8 (get_or s (from + i) 0)

  module _ (more : i < n) (has : from + n ≤ length s) where
    octeted_step : octet_types (first + 8 * i) (take (n - i) (drop (from + i) s))
        ≡ next ++ octet_types (first + 8 * (i + 1)) (take (n - (i + 1)) (drop (from + (i + 1)) s))
    unfolding octet_types
    octeted_step =
        let a : n - i ≡ suc (n - (i + 1)) = omega arith in
        let b : from + i + 1 ≡ from + (i + 1) = omega arith in
        let c : first + 8 * i + 8 ≡ first + 8 * (i + 1) = omega arith in
        rw (a, drop_next s (from + i) 0 (omega arith), b, c)

    pub octeted_room : k + length next ≤ length e
    octeted_room =
        let ts = octet_types (first + 8 * (i + 1)) (take (n - (i + 1)) (drop (from + (i + 1)) s)) in
        omega (arith, partly_size o.part, o.part.fits, o.part.written.size, ap length octeted_step, length-append next ts)

    pub octeted_more : {f : List ℕ} {m : ℕ} → Written e k k next m m f → Octeted d at s from n first f m (i + 1)
    octeted_more w = record { within = omega arith; part = partly_more o.part next octeted_step w (omega (arith, w.ends)) }

  pub octeted_all : n ≤ i → Written d at at (octet_types first (take n (drop from s))) k k e
  unfolding octet_types
  octeted_all h = let a : n - i ≡ 0 = omega arith in partly_all o.part (rw a)

-- ---- the windows

pub record Listed (before bitmap after : List ℕ) (k p : ℕ) : Type 0 where
  pub rest : List ℕ
  pub walk : Rest bitmap p rest
  pub part : Partly before 0 (types_of bitmap) rest k k after

pub listed_none : (d bitmap : List ℕ) → IsRead bitmap → length (types_of bitmap) ≤ length d → Listed d bitmap d 0 0
listed_none d bitmap e h = record {
  rest = types_of bitmap;
  walk = rest_start bitmap e;
  part = partly_none d 0 (types_of bitmap) (omega arith) (omega arith) (omega arith);
}

module _ {d bitmap e : List ℕ} {k p : ℕ} (l : Listed d bitmap e k p) where
  module _ (inside : p < length bitmap) where
    pub listed_window : Window bitmap p l.rest
    listed_window = rest_window l.walk inside

    pub listed_room : k + length (octet_types (256 * get_or bitmap p 0) (octets_at bitmap p)) ≤ length e
    listed_room =
        let w = listed_window in
        let ts = octet_types (256 * get_or bitmap p 0) (octets_at bitmap p) in
        omega (arith, partly_size l.part, l.part.fits, l.part.written.size, ap length w.is, length-append ts w.more)

    pub listed_more : {f : List ℕ} {m : ℕ} → Written e k k (octet_types (256 * get_or bitmap p 0) (octets_at bitmap p)) m m f
        → Listed d bitmap f m (p + (2 + get_or bitmap (p + 1) 0))
    listed_more v =
        let w = listed_window in
        record { rest = w.more; walk = w.next; part = partly_more l.part _ w.is v (omega (arith, v.ends)) }

  pub listed_all : length bitmap ≤ p → e ≡ overlay (types_of bitmap) d
  listed_all h = written_front (partly_all l.part (rest_end l.walk h)) (omega arith)
