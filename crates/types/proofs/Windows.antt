-- Windows one after another, in rising order, each with 1 to 32 octets of which the last is not 0, and their types. The types are a set
-- (`windows_rise`) whose bitmap these windows are (`windows_bitmap`), and the bitmap of a set is such windows (`bitmap_windows`).
use mathlib.Core.Path.{◌≡◌, refl, sym, ap, ◌∙◌}
use mathlib.Core.List.{List, [], ◌∷◌, ◌++◌}
use Prim.Native.Nat.{ℕ, zero, suc, ◌+◌, ◌*◌, ◌/◌, ◌%◌, ◌≤◌, ◌<◌}
use native.Mathlib.Decide.{dec_lt}
use native.Mathlib.Omega.{arith}
use lib.ListN.{length}
use Rattle.types.specs.Sets.{RisesIn, none, rises, below, from}
use Rattle.types.specs.Window.{octet_types, octets_of, octet_count, window_of}
use Rattle.types.specs.Bitmap.{windows_of}
use Rattle.types.proofs.Sets.{rises_wider, rises_append, below_from, below_rises, from_rises, cut_none, cut_append}
use Rattle.types.proofs.Sets.{Last, last_cons, last_in, rises_to}
use Rattle.types.proofs.Octets.{Ends, types_rise, types_octets, octets_types, octets_length, octets_end, end_last}

-- the octets s are windows whose numbers rise from `least` on, with these types
pub data Windows : ℕ → List ℕ → List ℕ → Type 0 where
  over : {least : ℕ} {s types : List ℕ} → s ≡ [] → types ≡ [] → Windows least s types
  window : {least : ℕ} {s types : List ℕ} (w : ℕ) (octets rest more : List ℕ) → least ≤ w → w ≤ 255 → length octets ≤ 32 → Ends octets
      → s ≡ w ∷ length octets ∷ octets ++ rest → types ≡ octet_types (256 * w) octets ++ more → Windows (w + 1) rest more
      → Windows least s types

windows_lower : {least low : ℕ} {s types : List ℕ} → Windows least s types → low ≤ least → Windows low s types
windows_lower (over e f) h = over e f
windows_lower {low = low} (window w octets rest more a b c d e f k) h = window {least = low} w octets rest more (omega arith) b c d e f k

pub some_octets : (s : List ℕ) → Ends s → 1 ≤ length s
some_octets [] h = absurd h
some_octets (o ∷ s) h = omega arith

-- ---- the types are a set

pub windows_rise : {least : ℕ} {s types : List ℕ} → Windows least s types → least ≤ 256 → RisesIn (256 * least) 65536 types
windows_rise (over e f) h = rw f none
windows_rise (window w octets rest more a b c d e f k) h =
    rw f
    (rises_append {mid = 256 * w + 256} (rises_wider (types_rise (256 * w) octets) (omega arith) (omega arith))
    (rises_wider (windows_rise k (omega arith)) (omega arith) (omega arith)) (omega arith) (omega arith))

-- ---- their bitmap is these windows

pub none_written : (n w : ℕ) → windows_of n w [] ≡ []
unfolding windows_of below from
none_written zero w = refl
none_written (suc n) w = none_written n (w + 1)

-- windows before the first that has types are not written
skipped : (n w v : ℕ) {end : ℕ} {s ts : List ℕ} → RisesIn (256 * v) end ts → w ≤ v → v ≤ 255 → w + n ≡ 256
    → ((m : ℕ) → v + suc m ≡ 256 → windows_of (suc m) v ts ≡ s) → windows_of n w ts ≡ s
unfolding windows_of
skipped zero w v r h k e there = absurd (omega arith)
skipped (suc n) w v {end} {s} {ts} r h k e there = go (dec_lt w v) (λ g. skipped n (w + 1) v r g k (omega arith) there)
  where
    go : Dec (w < v) → (w + 1 ≤ v → windows_of n (w + 1) ts ≡ s) → windows_of (suc n) w ts ≡ s
    go (yes g) ih =
        let q : RisesIn (256 * w + 256) end ts = rises_wider r (omega arith) (omega arith) in
        rw ((cut_none q).0, (cut_none q).1) (ih (omega arith))
    go (no g) ih = let f : v ≡ w = omega arith in rw f at (there n (omega arith))

pub window_is : (w : ℕ) {ts : List ℕ} {last : ℕ} → Last ts last
    → window_of w ts ≡ w ∷ octet_count last ∷ octets_of (octet_count last) (256 * w) ts
window_is w l = rw (l.is, l.ends)

-- the window of the types of a window's octets
window_again : (w : ℕ) (octets : List ℕ) → length octets ≤ 32 → Ends octets
    → window_of w (octet_types (256 * w) octets) ≡ w ∷ length octets ∷ octets
window_again w octets h d =
    let l = end_last (256 * w) octets d in
    let k = last_in (types_rise (256 * w) octets) l.ends in
    let n : octet_count l.last ≡ length octets = omega (arith, l.high, k.1, some_octets octets d) in
    window_is w l.ends ∙ rw (n, types_octets (256 * w) octets d)

pub windows_bitmap : {least : ℕ} {s types : List ℕ} → Windows least s types → (n w : ℕ) → w ≤ least → w + n ≡ 256
    → windows_of n w types ≡ s
unfolding windows_of
windows_bitmap (over e f) n w h k = rw (e, f) (none_written n w)
windows_bitmap {s = s} {types = types} (window v octets rest more a b c d e f q) n w h k =
    skipped n w v (windows_rise (window {least = v} v octets rest more (omega arith) b c d e f q) (omega arith)) (omega arith) b k
    (λ m g. here m g (windows_bitmap q m (v + 1) (omega arith) (omega arith)))
  where
    here : (m : ℕ) → v + suc m ≡ 256 → windows_of m (v + 1) more ≡ rest → windows_of (suc m) v types ≡ s
    here m g ih =
        let r : RisesIn (256 * v) (256 * v + 256) (octet_types (256 * v) octets) =
        rises_wider (types_rise (256 * v) octets) (omega arith) (omega arith) in
        let o : RisesIn (256 * v + 256) 65536 more = rises_wider (windows_rise q (omega arith)) (omega arith) (omega arith) in
        rw (f, e, (cut_append r o).0, (cut_append r o).1, window_again v octets c d, ih)

-- ---- the bitmap of a set is windows

bitmap_window : (w : ℕ) {ts : List ℕ} {last : ℕ} → RisesIn (256 * w) (256 * w + 256) ts → Last ts last
    → (octets : List ℕ) × (length octets ≤ 32) × Ends octets × (window_of w ts ≡ w ∷ length octets ∷ octets)
    × (octet_types (256 * w) octets ≡ ts)
bitmap_window w {ts} {last} r l =
    let k = last_in r l in
    let n : ℕ = last % 256 / 8 in
    let o : List ℕ = octets_of (octet_count last) (256 * w) ts in
    let e : octet_count last ≡ suc n = omega arith in
    let q : RisesIn (256 * w) (256 * w + 8 * suc n) ts = rises_to (256 * w + 8 * suc n) r l (omega (arith, k)) in (
      o,
      omega (arith, octets_length (octet_count last) (256 * w) ts),
      rw e (octets_end n (256 * w) q l (omega (arith, k.0))),
      rw (octets_length (octet_count last) (256 * w) ts) (window_is w l),
      rw e (octets_types (suc n) (256 * w) q),
    )

pub bitmap_windows : (n w : ℕ) {least : ℕ} {ts : List ℕ} → RisesIn (256 * w) (256 * (w + n)) ts → least ≤ w → w + n ≤ 256
    → Windows least (windows_of n w ts) ts
unfolding windows_of
bitmap_windows zero w none h k = over refl refl
bitmap_windows zero w (rises t a b r) h k = absurd (omega arith)
bitmap_windows (suc n) w {least} {ts} r h k =
    let q : RisesIn (256 * (w + 1)) (256 * (w + 1 + n)) (from (256 * w + 256) ts) =
    rises_wider (from_rises (256 * w + 256) r) (omega arith) (omega arith) in
    go (below (256 * w + 256) ts) (from (256 * w + 256) ts) (below_rises (256 * w + 256) r) (below_from (256 * w + 256) ts)
    (bitmap_windows n (w + 1) {least = w + 1} q (omega arith) (omega arith))
  where
    go : (xs ys : List ℕ) → RisesIn (256 * w) (256 * w + 256) xs → xs ++ ys ≡ ts → Windows (w + 1) (windows_of n (w + 1) ys) ys
        → Windows least (window_of w xs ++ windows_of n (w + 1) ys) ts
    go [] ys b e ih = rw (← e) (windows_lower ih (omega arith))
    go (x ∷ xs) ys b e ih =
        let o = bitmap_window w b (last_cons x) in
        window w o.0 (windows_of n (w + 1) ys) ys h (omega arith) o.1 o.2
        (ap (λ (s : List ℕ). s ++ windows_of n (w + 1) ys) o.3) (sym e ∙ ap (λ (s : List ℕ). s ++ ys) (sym o.4)) ih
