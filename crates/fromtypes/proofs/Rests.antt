-- A walk over a bitmap that was checked, window by window: what is left of its types at a place (`Rest`), and the window there
-- (`rest_window`).
use mathlib.Core.Path.{◌≡◌, sym, ap, ◌∙◌}
use mathlib.Core.List.{List, [], ◌++◌}
use Prim.Native.Nat.{ℕ, ◌+◌, ◌-◌, ◌*◌, ◌≤◌, ◌<◌}
use native.Mathlib.Omega.{arith}
use lib.ListN.{length, take, drop, get_or, length-drop, length-append}
use lib.Seq.{get_or-drop, drop-drop, take-append_seam, drop-append_seam}
use Rattle.types.specs.Sets.{RisesIn}
use Rattle.types.specs.Window.{octet_types}
use Rattle.types.proofs.Octets.{Ends}
use Rattle.types.proofs.Windows.{Windows, over, window, some_octets, windows_rise}
use Rattle.types.proofs.ReaderFinds.{read_windows}
use Rattle.fromtypes.specs.Private.Checked.{types_of, IsRead}

-- the types of the windows from the place p on
pub record Rest (bitmap : List ℕ) (p : ℕ) (rest : List ℕ) : Type 0 where
  pub within : p ≤ length bitmap
  pub least : ℕ
  pub windows : Windows least (drop p bitmap) rest

pub rest_start : (bitmap : List ℕ) → IsRead bitmap → Rest bitmap 0 (types_of bitmap)
rest_start bitmap e = record { within = omega arith; least = 0; windows = read_windows bitmap 0 0 (types_of bitmap) e }

-- the octets of the window at the place p
abbrev pub octets_at : List ℕ → ℕ → List ℕ
octets_at bitmap p = take (get_or bitmap (p + 1) 0) (drop (p + 2) bitmap)

-- the window at the place p, and the types after it
pub record Window (bitmap : List ℕ) (p : ℕ) (rest : List ℕ) : Type 0 where
  pub number : get_or bitmap p 0 ≤ 255
  pub most : get_or bitmap (p + 1) 0 ≤ 32
  pub some : 1 ≤ get_or bitmap (p + 1) 0
  pub within : p + 2 + get_or bitmap (p + 1) 0 ≤ length bitmap
  pub ends : Ends (octets_at bitmap p)
  pub more : List ℕ
  pub is : rest ≡ octet_types (256 * get_or bitmap p 0) (octets_at bitmap p) ++ more
  pub above : RisesIn (256 * (get_or bitmap p 0 + 1)) 65536 more
  pub next : Rest bitmap (p + (2 + get_or bitmap (p + 1) 0)) more

pub rest_window : {bitmap : List ℕ} {p : ℕ} {rest : List ℕ} → Rest bitmap p rest → p < length bitmap → Window bitmap p rest
rest_window {bitmap} {p} {rest} r h = go r.windows
  where
    go : {least : ℕ} → Windows least (drop p bitmap) rest → Window bitmap p rest
    go (over e f) = absurd (omega (arith, ap length e, length-drop p bitmap))
    go (window w octets s more a b c d e f q) =
        let z : p + 0 ≡ p = omega arith in
        let number : get_or bitmap p 0 ≡ w = rw z at (sym (get_or-drop p bitmap 0 0)) ∙ ap (λ (l : List ℕ). get_or l 0 0) e in
        let count : get_or bitmap (p + 1) 0 ≡ length octets = sym (get_or-drop p bitmap 1 0) ∙ ap (λ (l : List ℕ). get_or l 1 0) e in
        let tail : drop (p + 2) bitmap ≡ octets ++ s = sym (drop-drop 2 p bitmap) ∙ ap (drop 2) e in
        let size : length bitmap - p ≡ 2 + length octets + length s =
        sym (length-drop p bitmap) ∙ ap length e ∙ omega (arith, length-append octets s) in
        let here : octets_at bitmap p ≡ octets = rw (count, tail) (take-append_seam octets s) in
        let after : drop (p + (2 + get_or bitmap (p + 1) 0)) bitmap ≡ s =
        let k : p + (2 + length octets) ≡ p + 2 + length octets = omega arith in
        rw (count, k) (sym (drop-drop (length octets) (p + 2) bitmap) ∙ rw tail (drop-append_seam octets s)) in
        record {
          number = rw number b;
          most = rw count c;
          some = rw count (some_octets octets d);
          within = omega arith;
          ends = rw here d;
          more = more;
          is = rw (number, here) f;
          above = rw number (windows_rise q (omega arith));
          next = record { within = omega arith; least = w + 1; windows = rw after q };
        }

pub rest_end : {bitmap : List ℕ} {p : ℕ} {rest : List ℕ} → Rest bitmap p rest → length bitmap ≤ p → rest ≡ []
rest_end {bitmap} {p} {rest} r h = go r.windows
  where
    go : {least : ℕ} → Windows least (drop p bitmap) rest → rest ≡ []
    go (over e f) = f
    go (window w octets s more a b c d e f q) = absurd (omega (arith, ap length e, length-drop p bitmap))
