-- A hash as a number in parts: each octet more makes 256 times the number (`part_more`), and the parts make the whole (`value_parts`).
use Rattle.std.proofs.Common.{◌≡◌, ℕ, ◌+◌, ◌*◌, ◌^◌, ◌<◌, ◌≤◌, Bool, true, false, cond, ◌&&◌, ◌||◌, List, ◌++◌, length, get_or, take, drop}
use Rattle.std.proofs.Common.{sym, refl, ap, ◌∙◌, lt_of_lt_of_le, le-add_right, le_of_lt, add-one, arith, length-drop, take-append-drop}
use Rattle.std.proofs.Common.{length-take-le, get_or-drop, take_all, take-suc, take-add, le-ltb, lt-ltb}
use native.Mathlib.Nat.{pow-le-pow_right}
use lib.Arith.{digits_lt}
use Rattle.hash.specs.Digits.{value}
use Rattle.hash.specs.Between.{lies_between}
use Rattle.hash.specs.Private.Below.{Below}
use Rattle.hash.specs.Private.Whole.{whole, lesser}
use Rattle.hash.proofs.Digits.{value_append, value_more, value_below, below_take, below_drop, below_at}

module _ (s : List ℕ) (at k : ℕ) (h : at + k < length s) where
  pub part_more : 256 * value 256 (take k (drop at s)) + get_or s (at + k) 0 ≡ value 256 (take (k + 1) (drop at s))
  part_more =
      let has : k < length (drop at s) = omega (arith, length-drop at s) in
      let octet = get_or (drop at s) k 0 in
      rw (add-one, take-suc (drop at s) k 0 has, value_more 256 (take k (drop at s)) octet, get_or-drop at s k 0) (omega arith)

  -- which has room in 8 octets
  pub part_room : Below 256 s → k < 8 → 256 * value 256 (take k (drop at s)) + get_or s (at + k) 0 < 18446744073709551616
  part_room b few =
      let l = take k (drop at s) in
      let count : length l ≡ k = length-take-le k (drop at s) (omega (arith, length-drop at s)) in
      let most : 256 ^ k ≤ 256 ^ 7 = pow-le-pow_right {n = 256} (omega arith) {i = k} {j = 7} (omega arith) in
      let room = rw count at (value_below 256 l (below_take 256 k (drop at s) (below_drop 256 at s b))) in
      omega (arith, below_at 256 s (at + k) b (omega arith))

pub part_none : (l : List ℕ) → 0 ≡ value 256 (take 0 l)
unfolding value
part_none l = refl

-- a number that has 8 octets more
eight_more : (s t : List ℕ) → length t ≡ 8 → value 256 (s ++ t) ≡ value 256 s * 18446744073709551616 + value 256 t
eight_more s t e = value_append 256 s t ∙ rw e

pub value_parts : (s : List ℕ) → length s ≡ 20
    → whole (value 256 (take 4 (drop 0 s))) (value 256 (take 8 (drop 4 s))) (value 256 (take 8 (drop 12 s))) ≡ value 256 s
value_parts s e =
    let low : take 8 (drop 12 s) ≡ drop 12 s = take_all 8 (drop 12 s) (omega (arith, length-drop 12 s)) in
    let front : value 256 (take 12 s) ≡ _ = ap (value 256) (take-add 4 8 s) ∙ eight_more (take 4 s) (take 8 (drop 4 s))
    (length-take-le 8 (drop 4 s) (omega (arith, length-drop 4 s))) in
    let back = eight_more (take 12 s) (drop 12 s) (omega (arith, length-drop 12 s)) in
    sym (ap (value 256) (sym (take-append-drop 12 s)) ∙ back ∙ rw (front, low))

-- ---- the tests, told by the numbers

-- a high digit that is less decides, whatever the low ones are
high_less : (w : ℕ) {a m b : ℕ} (n : ℕ) → a < b → m < w → a * w + m < b * w + n
high_less w n h low = lt_of_lt_of_le (digits_lt h low) (le-add_right _ n)

low_less : (a : ℕ) {m n : ℕ} → m < n → a + m < a + n
low_less a h = omega arith

low_most : (a : ℕ) {m n : ℕ} → m ≤ n → a + m ≤ a + n
low_most a h = omega arith

-- parts of 8 octets
abbrev Eight : ℕ → Type 0
Eight v = v < 18446744073709551616

whole_high : {a m l b : ℕ} (n k : ℕ) → (a < b) × Eight m × Eight l → whole a m l < whole b n k
whole_high n k h = high_less 18446744073709551616 k (high_less 18446744073709551616 n h.0 h.1) h.2

whole_middle : {a m l b n : ℕ} (k : ℕ) → (a ≡ b) × (m < n) × Eight l → whole a m l < whole b n k
whole_middle {a} {m} {l} {b} {n} k h =
    let e : a ≡ b = h.0 in
    let less : a * 18446744073709551616 + m < b * 18446744073709551616 + n = omega (arith, h.1) in
    high_less 18446744073709551616 k less h.2

module _ (a m l b n k : ℕ) where
  pub lesser_high : (a < b) × Eight m × Eight l → true ≡ lesser a m l b n k
  unfolding lesser
  lesser_high h = sym (lt-ltb (whole a m l) (whole b n k) (whole_high n k h))

  pub lesser_middle : (a ≡ b) × (m < n) × Eight l → true ≡ lesser a m l b n k
  unfolding lesser
  lesser_middle h = sym (lt-ltb (whole a m l) (whole b n k) (whole_middle k h))

  pub lesser_low : (a ≡ b) × (m ≡ n) × (l < k) → true ≡ lesser a m l b n k
  unfolding lesser
  lesser_low h = sym (lt-ltb (whole a m l) (whole b n k) (rw (h.0, h.1) (low_less _ h.2)))

  pub greater_high : (b < a) × Eight n × Eight k → false ≡ lesser a m l b n k
  unfolding lesser
  greater_high h = sym (le-ltb (whole a m l) (whole b n k) (le_of_lt (whole_high m l h)))

  pub greater_middle : (b ≡ a) × (n < m) × Eight k → false ≡ lesser a m l b n k
  unfolding lesser
  greater_middle h = sym (le-ltb (whole a m l) (whole b n k) (le_of_lt (whole_middle l h)))

  pub not_lesser_low : (a ≡ b) × (m ≡ n) × (k ≤ l) → false ≡ lesser a m l b n k
  unfolding lesser
  not_lesser_low h = sym (le-ltb (whole a m l) (whole b n k) (rw (h.0, h.1) (low_most _ h.2)))

-- three hashes in parts, and the tests of the first and the last, of the first and the middle one, and of the middle and the last one
module _ (first hash second : List ℕ) (a m l b n k d o p : ℕ) (ef : whole a m l ≡ value 256 first) (eh : whole b n k ≡ value 256 hash)
    (es : whole d o p ≡ value 256 second)
  where
    pub between_told : {x y z : Bool} → x ≡ lesser a m l d o p → y ≡ lesser a m l b n k → z ≡ lesser b n k d o p
        → cond x (y && z) (y || z) ≡ lies_between first hash second
    unfolding lesser
    between_told ex ey ez = rw (ex, ey, ez, ef, eh, es)
