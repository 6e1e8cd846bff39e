-- Whether a bitmap has a type: it is in what is left of the bitmap where its bit is set in the window of its number (`has_here`,
-- `has_beyond`, `has_elsewhere`), so that windows are passed until that one comes (`Seeking`).
use mathlib.Core.Path.{◌≡◌, ap, ◌∙◌}
use mathlib.Core.List.{List}
use mathlib.Core.Bool.{false, ◌||◌}
use Prim.Native.Nat.{ℕ, ◌+◌, ◌-◌, ◌*◌, ◌/◌, ◌%◌, ◌^◌, ◌≤◌, ◌<◌}
use native.Mathlib.Omega.{arith}
use lib.Dec.{eqb}
use lib.ListN.{length, drop, get_or, length-drop}
use lib.Seq.{length-take-le}
use Rattle.facts.proofs.Parts.{part_at}
use Rattle.types.specs.Sets.{RisesIn, has}
use Rattle.types.specs.Window.{octet_types}
use Rattle.types.proofs.Octets.{types_rise}
use Rattle.types.proofs.Members.{has_append, has_not, bits_has, or_false, octets_has}
use Rattle.fromtypes.specs.Private.Checked.{types_of}
use Rattle.fromtypes.proofs.Rests.{Rest, octets_at, Window, rest_window, rest_end}

-- ---- whether a type is there

module _ {bitmap : List ℕ} {p : ℕ} {rest : List ℕ} (here : Window bitmap p rest) (t : ℕ) where
  abbrev w : ℕ
  w = get_or bitmap p 0

  abbrev n : ℕ
  n = get_or bitmap (p + 1) 0

  size : length (octets_at bitmap p) ≡ n
  size = length-take-le n (drop (p + 2) bitmap) (omega (arith, here.within, length-drop (p + 2) bitmap))

  octets_rise : RisesIn (256 * w) (256 * w + 8 * n) (octet_types (256 * w) (octets_at bitmap p))
  octets_rise = rw size at (types_rise (256 * w) (octets_at bitmap p))

  joined : has t rest ≡ has t (octet_types (256 * w) (octets_at bitmap p)) || has t here.more
  joined = ap (has t) here.is ∙ has_append t (octet_types (256 * w) (octets_at bitmap p)) here.more

  pub has_elsewhere : (w ≡ t / 256 → ⊥) → has t rest ≡ has t here.more
  has_elsewhere h = joined ∙ rw (has_not t octets_rise (λ q. h (omega (arith, q.0, q.1, here.most))))

  module _ (same : w ≡ t / 256) where
    in_window : has t rest ≡ has t (octet_types (256 * w) (octets_at bitmap p))
    in_window = joined ∙ rw (has_not t here.above (λ q. omega (arith, q.0))) (or_false _)

    pub has_beyond : n ≤ t % 256 / 8 → has t rest ≡ false
    has_beyond h = in_window ∙ has_not t octets_rise (λ q. omega (arith, q.1))

    pub has_here : get_or bitmap (p + 2 + t % 256 / 8) 0 < 256 → t % 256 / 8 < n
        → has t rest ≡ eqb (get_or bitmap (p + 2 + t % 256 / 8) 0 / 2 ^ (7 - t % 256 % 8) % 2) 1
    has_here octet h =
        let k : ℕ = t % 256 / 8 in
        let o : get_or (octets_at bitmap p) k 0 ≡ get_or bitmap (p + 2 + k) 0 = part_at bitmap (p + 2) n k 0 h in
        let e : 256 * w + 8 * k + 8 - (t + 1) ≡ 7 - t % 256 % 8 = omega arith in
        let b = bits_has (256 * w + 8 * k) 8 (get_or bitmap (p + 2 + k) 0) t (omega arith) (omega arith) octet in
        in_window ∙ octets_has (256 * w) k t (octets_at bitmap p) (omega arith) (omega arith) (omega (arith, size)) ∙ rw o (rw e at b)

-- the type is in the bitmap where it is in what is left
pub record Seeking (bitmap : List ℕ) (t p : ℕ) : Type 0 where
  pub rest : List ℕ
  pub walk : Rest bitmap p rest
  pub left : has t (types_of bitmap) ≡ has t rest

module _ {bitmap : List ℕ} {t p : ℕ} (seek : Seeking bitmap t p) where
  pub seek_window : p < length bitmap → Window bitmap p seek.rest
  seek_window h = rest_window seek.walk h

  pub seek_next : (here : Window bitmap p seek.rest) → (get_or bitmap p 0 ≡ t / 256 → ⊥)
      → Seeking bitmap t (p + (2 + get_or bitmap (p + 1) 0))
  seek_next here h = record { rest = here.more; walk = here.next; left = seek.left ∙ has_elsewhere here t h }

  pub seek_end : length bitmap ≤ p → has t (types_of bitmap) ≡ false
  unfolding has
  seek_end h = seek.left ∙ rw (rest_end seek.walk h)
