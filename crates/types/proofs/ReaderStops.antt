-- Where the reader stops: at each octet it tests whether that may stand there, and whatever stands before can be completed to a bitmap, by
-- octets 1 (`number_completes`, `count_completes`, `octets_complete`). So the place is the length of the longest beginning that some bitmap
-- also begins with (`read_stops`).
use mathlib.Core.Path.{◌≡◌, refl, sym, ap, ◌∙◌}
use mathlib.Core.List.{List, [], ◌∷◌, ◌++◌}
use mathlib.Core.Bool.{Bool, true, false, cond}
use Prim.Native.Nat.{ℕ, zero, suc, ◌+◌, ◌-◌, ◌*◌}
use lib.Dec.{leb}
use Rattle.name.specs.Reader.{Read, found, stops}
use Rattle.name.proofs.Beginnings.{stops_not_found, Completes, Stop, stop_here, stop_on, stop_longest}
use Rattle.types.specs.Window.{bit_types}
use Rattle.types.specs.Bitmap.{IsBitmap, Longest}
use Rattle.types.specs.ReadTypes.{before, number_fits, count_fits, last_fits, read_number, read_count, read_octets, read_types}
use Rattle.types.proofs.ReaderFinds.{before_none, bitmap_read, read_bitmap}

-- ---- one octet

stops_before : (xs : List ℕ) (r : Read) (m : ℕ) → before xs r ≡ stops m → r ≡ stops m
stops_before xs (found ts) m e = absurd (stops_not_found (sym e))
stops_before xs (stops p) m e = e

-- an octet that is tested at the place p, and what reading on finds
module _ (reads later : List ℕ → Read) (o : ℕ) (xs : List ℕ) (p : ℕ) where
  passes : ((s : List ℕ) → reads (o ∷ s) ≡ before xs (later s)) → (t : List ℕ) (m : ℕ) → Stop later (p + 1) t m → Stop reads p (o ∷ t) m
  passes is t m k =
      stop_on reads later (o ∷ []) (λ s n e. (xs ++ n, is s ∙ rw e)) (λ s n e. is s ∙ rw e) p (p + 1) t m refl k

  stop_octet : (b : Bool) → ((s : List ℕ) → reads (o ∷ s) ≡ cond b (before xs (later s)) (stops p)) → Completes reads []
      → (t : List ℕ) (m : ℕ) → (later t ≡ stops m → Stop later (p + 1) t m) → reads (o ∷ t) ≡ stops m → Stop reads p (o ∷ t) m
  stop_octet true is c t m on e = passes is t m (on (stops_before xs (later t) m (sym (is t) ∙ e)))
  stop_octet false is c t m on e = stop_here reads p m (o ∷ t) c (sym (is t) ∙ e) is

-- ---- octets that complete what stands before

number_completes : (least p : ℕ) → Completes (read_number least p) []
unfolding read_number
number_completes least p = record { rest = []; whole = []; finds = refl }

octets_complete : (w first more p : ℕ) → Completes (read_octets w first more p) []
unfolding read_octets read_number
octets_complete w first zero p = record { rest = 1 ∷ []; whole = bit_types first 8 1 ++ []; finds = refl }
octets_complete w first (suc more) p =
    let k = octets_complete w (first + 8) more (p + 1) in
    record {
      rest = 1 ∷ k.rest;
      whole = bit_types first 8 1 ++ k.whole;
      finds = ap (before (bit_types first 8 1)) k.finds;
    }

count_completes : (w p : ℕ) → Completes (read_count w p) []
unfolding read_count
count_completes w p =
    let k = octets_complete w (256 * w) 0 (p + 1) in
    record { rest = 1 ∷ k.rest; whole = k.whole; finds = k.finds }

-- ---- where it stops

mutual
  unfolding read_number read_count read_octets

  number_stops : (s : List ℕ) (least p m : ℕ) → read_number least p s ≡ stops m → Stop (read_number least p) p s m
  number_stops [] least p m e = absurd (stops_not_found (sym e))
  number_stops (w ∷ s) least p m e =
      stop_octet (read_number least p) (read_count w (p + 1)) w [] p (number_fits least w)
      (λ t. rw (before_none (read_count w (p + 1) t)))
      (number_completes least p) s m (λ i. count_stops s w (p + 1) m i) e

  count_stops : (s : List ℕ) (w p m : ℕ) → read_count w p s ≡ stops m → Stop (read_count w p) p s m
  count_stops [] w p m e = stop_here (read_count w p) p m [] (count_completes w p) e tt
  count_stops (n ∷ s) w p m e =
      stop_octet (read_count w p) (read_octets w (256 * w) (n - 1) (p + 1)) n [] p (count_fits n)
      (λ t. rw (before_none (read_octets w (256 * w) (n - 1) (p + 1) t))) (count_completes w p) s m
      (λ i. octets_stop s w (256 * w) (n - 1) (p + 1) m i) e

  octets_stop : (s : List ℕ) (w first more p m : ℕ) → read_octets w first more p s ≡ stops m → Stop (read_octets w first more p) p s m
  octets_stop [] w first more p m e = stop_here (read_octets w first more p) p m [] (octets_complete w first more p) e tt
  octets_stop (o ∷ s) w first zero p m e =
      stop_octet (read_octets w first 0 p) (read_number (w + 1) (p + 1)) o (bit_types first 8 o) p (last_fits o) (λ t. refl)
      (octets_complete w first 0 p) s m (λ i. number_stops s (w + 1) (p + 1) m i) e
  octets_stop (o ∷ s) w first (suc more) p m e =
      stop_octet (read_octets w first (suc more) p) (read_octets w (first + 8) more (p + 1)) o (bit_types first 8 o) p (leb o 255)
      (λ t. refl)
      (octets_complete w first (suc more) p) s m (λ i. octets_stop s w (first + 8) more (p + 1) m i) e

-- ---- bitmaps that begin so

pub read_stops : (octets : List ℕ) (p : ℕ) → read_types octets ≡ stops p → Longest octets p
read_stops octets p e =
    stop_longest IsBitmap read_types (λ s n h. record { types = n; has = read_bitmap s n h })
    (λ s m h k. stops_not_found (sym h ∙ ap read_types (sym k.has.is) ∙ bitmap_read k.types k.has.set)) octets p
    (number_stops octets 0 0 p e)
