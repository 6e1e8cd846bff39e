-- The length of a bitmap, type by type: where the next type is of another window, or there is none, a window ends (`bitmap_size`).
use mathlib.Core.Path.{◌≡◌, refl, ap, ◌∙◌}
use mathlib.Core.List.{List, [], ◌∷◌, ◌++◌}
use mathlib.Core.Bool.{cond}
use Prim.Native.Nat.{ℕ, zero, suc, ◌+◌, ◌*◌, ◌/◌, ◌≤◌}
use native.Mathlib.Omega.{arith}
use borrow.Author.Tests.{eq-eqb, ne_eqb}
use lib.Dec.{eqb}
use lib.ListN.{length, length-append}
use Rattle.types.specs.Sets.{RisesIn, none, rises, below, from, last_of}
use Rattle.types.specs.Window.{window_of, octet_count}
use Rattle.types.specs.Bitmap.{windows_of}
use Rattle.totypes.specs.Private.Surveyed.{window_size}
use Rattle.types.proofs.Sets.{rises_wider, below_from, below_rises, from_rises}
use Rattle.types.proofs.Octets.{octets_length}

-- of a type and those after it
unfoldable pub size_from : ℕ → List ℕ → ℕ
size_from t [] = window_size t
size_from t (u ∷ us) = cond (eqb (u / 256) (t / 256)) 0 (window_size t) + size_from u us

abbrev pub size_of : List ℕ → ℕ
size_of [] = 0
size_of (t ∷ ts) = size_from t ts

-- the types of a window, and those after it
size_window : (w end x : ℕ) (xs ys : List ℕ) → RisesIn (256 * w) (256 * w + 256) (x ∷ xs) → RisesIn (256 * w + 256) end ys
    → size_from x (xs ++ ys) ≡ window_size (last_of x xs) + size_of ys
unfolding size_from
size_window w end x [] [] r q = omega arith
size_window w end x [] (y ∷ ys) (rises t a b r) (rises u c d q) =
    let n : y / 256 ≡ x / 256 → ⊥ = λ e. omega arith in
    rw (ne_eqb (y / 256) (x / 256) n)
size_window w end x (u ∷ us) ys (rises t a b (rises v c d r)) q =
    let e : u / 256 ≡ x / 256 = omega arith in
    let low : 256 * w ≤ u = omega arith in
    rw (eq-eqb (u / 256) (x / 256) e) (omega (arith, size_window w end u us ys (rises u low d r) q))

size_written : (w : ℕ) (xs : List ℕ) (end : ℕ) (ys : List ℕ) → RisesIn (256 * w) (256 * w + 256) xs → RisesIn (256 * w + 256) end ys
    → length (window_of w xs) + size_of ys ≡ size_of (xs ++ ys)
size_written w [] end ys r q = omega arith
size_written w (x ∷ xs) end ys r q =
    omega (arith, size_window w end x xs ys r q, octets_length (octet_count (last_of x xs)) (256 * w) (x ∷ xs))

pub bitmap_size : (n w : ℕ) {ts : List ℕ} → RisesIn (256 * w) (256 * (w + n)) ts → length (windows_of n w ts) ≡ size_of ts
unfolding windows_of
bitmap_size zero w none = refl
bitmap_size zero w (rises t a b r) = absurd (omega arith)
bitmap_size (suc n) w {ts} r =
    let m : ℕ = 256 * w + 256 in
    let q : RisesIn (256 * (w + 1)) (256 * (w + 1 + n)) (from m ts) = rises_wider (from_rises m r) (omega arith) (omega arith) in
    let p : RisesIn m (256 * (w + suc n)) (from m ts) = from_rises m r in
    let i = bitmap_size n (w + 1) q in
    length-append (window_of w (below m ts)) (windows_of n (w + 1) (from m ts))
    ∙ omega (arith, i, size_written w (below m ts) (256 * (w + suc n)) (from m ts) (below_rises m r) p)
    ∙ ap size_of (below_from m ts)
