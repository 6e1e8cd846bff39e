-- The number of types is the number of ones: in octets (`types_ones`), and over the windows of a bitmap (`Summing`). A set has at most
-- 65,536 types, so that no sum is too large.
use mathlib.Core.Path.{◌≡◌, refl, ap}
use mathlib.Core.List.{List, [], ◌∷◌}
use Prim.Native.Nat.{ℕ, suc, ◌+◌, ◌-◌, ◌*◌, ◌≤◌, ◌<◌}
use native.Mathlib.Omega.{arith}
use lib.Count.{ones, ones-le}
use lib.ListN.{length, take, drop, get_or, length-append}
use Rattle.facts.proofs.Lists.{drop_next}
use Rattle.types.specs.Sets.{RisesIn, none, rises}
use Rattle.types.specs.Window.{bit_types, octet_types}
use Rattle.types.proofs.Octets.{Ends}
use Rattle.types.proofs.Zeros.{bits_ones}
use Rattle.types.proofs.ReaderFinds.{read_bitmap}
use Rattle.fromtypes.specs.Private.Checked.{types_of, IsRead}
use Rattle.fromtypes.specs.Private.Counted.{ones_of}
use Rattle.fromtypes.proofs.Rests.{Rest, Window, octets_at, rest_start, rest_window, rest_end}

pub types_ones : (first : ℕ) (s : List ℕ) → Ends s → length (octet_types first s) ≡ ones_of s
unfolding octet_types ones_of
types_ones first [] h = refl
types_ones first (o ∷ []) h =
    omega (arith, length-append (bit_types first 8 o) [], bits_ones first 8 o (omega arith))
types_ones first (o ∷ p ∷ s) h =
    omega (
      arith,
      length-append (bit_types first 8 o) (octet_types (first + 8) (p ∷ s)),
      bits_ones first 8 o (omega arith),
      types_ones (first + 8) (p ∷ s) h.1,
    )

-- ---- the octets of a window

-- with the ones of the octets from the index i on the sum is that of all
pub record Adding (s : List ℕ) (from n sum i : ℕ) : Type 0 where
  pub within : i ≤ n
  pub few : sum ≤ 8 * i
  pub is : sum + ones_of (take (n - i) (drop (from + i) s)) ≡ ones_of (take n (drop from s))

pub adding_start : (s : List ℕ) (from n : ℕ) → Adding s from n 0 0
adding_start s from n =
    let e : from + 0 ≡ from = omega arith in
    let f : n - 0 ≡ n = omega arith in
    record { within = omega arith; few = omega arith; is = rw (e, f) (omega arith) }

pub adding_more : {s : List ℕ} {from n sum i : ℕ} → Adding s from n sum i → {j : ℕ} → j ≡ from + i → i < n → from + n ≤ length s
    → get_or s j 0 < 256 → Adding s from n (sum + ones (get_or s j 0)) (i + 1)
unfolding ones_of
adding_more {s} {from} {n} {sum} {i} a {j} at h k o =
    let e : n - i ≡ suc (n - (i + 1)) = omega arith in
    let f : from + i + 1 ≡ from + (i + 1) = omega arith in
    let step : ones_of (take (n - i) (drop (from + i) s))
    ≡ ones (get_or s j 0) + ones_of (take (n - (i + 1)) (drop (from + (i + 1)) s)) =
    rw (e, drop_next s (from + i) 0 (omega arith), f, at) in
    record {
      within = omega arith;
      few = omega (arith, a.few, ones-le 8 (get_or s j 0) o);
      is = omega (arith, a.is, step);
    }

pub adding_all : {s : List ℕ} {from n sum i : ℕ} → Adding s from n sum i → n ≤ i → sum ≡ ones_of (take n (drop from s))
unfolding ones_of
adding_all {n = n} {i = i} a h = let e : n - i ≡ 0 = omega arith in omega (arith, rw e at a.is)

-- ---- the windows of a bitmap

rises_length : {least end : ℕ} {ts : List ℕ} → RisesIn least end ts → least ≤ end → least + length ts ≤ end
rises_length none h = omega arith
rises_length (rises t a b r) h = omega (arith, rises_length r (omega arith))

pub record Summing (bitmap : List ℕ) (sum p : ℕ) : Type 0 where
  pub rest : List ℕ
  pub walk : Rest bitmap p rest
  pub is : sum + length rest ≡ length (types_of bitmap)
  pub few : length (types_of bitmap) ≤ 65536

pub summing_start : (bitmap : List ℕ) → IsRead bitmap → Summing bitmap 0 0
summing_start bitmap e = record {
  rest = types_of bitmap;
  walk = rest_start bitmap e;
  is = omega arith;
  few = omega (arith, rises_length (read_bitmap bitmap (types_of bitmap) e).set (omega arith));
}

module _ {bitmap : List ℕ} {sum p : ℕ} (s : Summing bitmap sum p) where
  module _ (inside : p < length bitmap) where
    pub summing_window : Window bitmap p s.rest
    summing_window = rest_window s.walk inside

    summing_adds : sum + (ones_of (octets_at bitmap p) + length summing_window.more) ≡ length (types_of bitmap)
    summing_adds =
        let w = summing_window in
        let ts = octet_types (256 * get_or bitmap p 0) (octets_at bitmap p) in
        omega (
          arith,
          s.is,
          ap length w.is,
          length-append ts w.more,
          types_ones (256 * get_or bitmap p 0) (octets_at bitmap p) w.ends,
        )

    pub summing_few : {n : ℕ} → n ≡ ones_of (octets_at bitmap p) → sum + n ≤ 65536
    summing_few e = omega (arith, summing_adds, s.few)

    pub summing_more : {n : ℕ} → n ≡ ones_of (octets_at bitmap p) → Summing bitmap (sum + n) (p + (2 + get_or bitmap (p + 1) 0))
    summing_more e = record {
      rest = summing_window.more;
      walk = summing_window.next;
      is = omega (arith, summing_adds);
      few = s.few;
    }

  pub summing_all : length bitmap ≤ p → sum ≡ length (types_of bitmap)
  summing_all h = omega (arith, s.is, ap length (rest_end s.walk h))
