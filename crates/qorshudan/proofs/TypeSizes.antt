-- What is said of a bitmap is small: a set has 65,536 types at most and its bitmap 8,704 octets, so that a place, an index, a number of
-- types and 1 plus a type are 65,536 at most.
use mathlib.Core.Path.{◌≡◌, refl, ap}
use mathlib.Core.List.{List, [], ◌∷◌}
use mathlib.Core.Bool.{Bool, true, false, cond}
use Prim.Native.Nat.{ℕ, zero, suc, ◌+◌, ◌*◌, ◌≤◌, ◌<◌}
use native.Mathlib.Omega.{arith}
use borrow.Author.Tests.{leb-true}
use lib.Dec.{leb, ltb}
use lib.ListN.{length, length-append, take, get_or}
use lib.Seq.{length-take-le}
use Rattle.name.specs.Answer.{answer, refusal, value, fitted}
use Rattle.name.specs.Reader.{Read, found, stops}
use Rattle.name.proofs.Small.{fitted_small}
use Rattle.types.specs.Sets.{RisesIn, none, rises, IsSet, rising, has, below, from, last_of}
use Rattle.types.specs.Window.{window_of, octet_count}
use Rattle.types.specs.Bitmap.{windows_of, bitmap_of}
use Rattle.types.specs.ReadTypes.{read_types}
use Rattle.types.specs.Answers.{of_types, smallest, largest}
use Rattle.types.specs.Answers.{read_types_of, write_types_of, has_type_of, count_types_of, smallest_type_of, largest_type_of}
use Rattle.types.proofs.Sets.{last_cons, last_in}
use Rattle.types.proofs.Octets.{octets_length}
use Rattle.types.proofs.ReaderFinds.{read_bitmap}
use Rattle.types.proofs.ReaderStops.{read_stops}

-- ---- sets and bitmaps

set_small : {least end : ℕ} {ts : List ℕ} → RisesIn least end ts → least ≤ end → least + length ts ≤ end
set_small none h = omega arith
set_small (rises t a b r) h = omega (arith, set_small r (omega arith))

rising_small : (least end : ℕ) (ts : List ℕ) → ((i : ℕ) → get_or ts i 0 < end) → least ≤ end → least + rising least ts ≤ end
unfolding rising
rising_small least end [] k h = omega arith
rising_small least end (t ∷ ts) k h =
    go (leb least t) refl (rising_small (t + 1) end ts (λ i. k (suc i)) (omega (arith, k 0)))
  where
    go : (b : Bool) → leb least t ≡ b → t + 1 + rising (t + 1) ts ≤ end → least + cond b (suc (rising (t + 1) ts)) 0 ≤ end
    go true e ih = omega (arith, leb-true least t e)
    go false e ih = omega arith

window_small : (w : ℕ) (ts : List ℕ) → length (window_of w ts) ≤ 34
window_small w [] = omega arith
window_small w (t ∷ ts) = omega (arith, octets_length (octet_count (last_of t ts)) (256 * w) (t ∷ ts))

windows_small : (n w : ℕ) (ts : List ℕ) → length (windows_of n w ts) ≤ 34 * n
unfolding windows_of
windows_small zero w ts = omega arith
windows_small (suc n) w ts =
    rw (length-append (window_of w (below (256 * w + 256) ts)) (windows_of n (w + 1) (from (256 * w + 256) ts)))
    (omega (arith, window_small w (below (256 * w + 256) ts), windows_small n (w + 1) (from (256 * w + 256) ts)))

bitmap_small : (types : List ℕ) → length (bitmap_of types) ≤ 8704
bitmap_small types = windows_small 256 0 types

-- octets are read no further than some bitmap goes
place_small : (octets : List ℕ) (p : ℕ) → read_types octets ≡ stops p → p ≤ 8704
place_small octets p e =
    let l = read_stops octets p e in
    let b = l.begins p (omega arith) in
    let m = b.accepted.has.is in
    omega (
      arith,
      length-take-le p octets l.within,
      length-append (take p octets) b.rest,
      ap length m,
      bitmap_small b.accepted.types,
    )

-- ---- what is asked of a bitmap

asked_small : (f : List ℕ → ℕ) (octets : List ℕ) → ((types : List ℕ) → IsSet types → f types ≤ 65536)
    → value (of_types f (read_types octets)) ≤ 65536
asked_small f octets h = go (read_types octets) refl
  where
    go : (r : Read) → read_types octets ≡ r → value (of_types f r) ≤ 65536
    go (found types) e = h types (read_bitmap octets types e).set
    go (stops p) e = omega (arith, place_small octets p e)

pub has_type_small : (octets : List ℕ) (t : ℕ) → value (has_type_of octets t) ≤ 65536
has_type_small octets t = asked_small (λ types. cond (has t types) 1 0) octets (λ types r. go (has t types))
  where
    go : (b : Bool) → cond b 1 0 ≤ 65536
    go true = omega arith
    go false = omega arith

pub count_types_small : (octets : List ℕ) → value (count_types_of octets) ≤ 65536
count_types_small octets = asked_small (λ types. length types) octets (λ types r. omega (arith, set_small r (omega arith)))

pub smallest_small : (octets : List ℕ) → value (smallest_type_of octets) ≤ 65536
smallest_small octets = asked_small smallest octets go
  where
    go : (types : List ℕ) → IsSet types → smallest types ≤ 65536
    go [] r = omega arith
    go (t ∷ ts) (rises u a b r) = omega arith

pub largest_small : (octets : List ℕ) → value (largest_type_of octets) ≤ 65536
largest_small octets = asked_small largest octets go
  where
    go : (types : List ℕ) → IsSet types → largest types ≤ 65536
    go [] r = omega arith
    go (t ∷ ts) r = omega (arith, (last_in r (last_cons t)).1)

-- ---- what is read and written

pub read_types_small : (octets : List ℕ) (room : ℕ) → value (fitted room (read_types_of octets)) ≤ 65536
read_types_small octets room = go (read_types octets) refl
  where
    go : (r : Read) → read_types octets ≡ r → value (fitted room (of_types (λ types. types) r)) ≤ 65536
    go (found types) e = fitted_small types room 65536 (omega (arith, set_small (read_bitmap octets types e).set (omega arith)))
    go (stops p) e = omega (arith, place_small octets p e)

pub write_types_small : (types : List ℕ) (room : ℕ) → ((i : ℕ) → get_or types i 0 < 65536)
    → value (fitted room (write_types_of types)) ≤ 65536
write_types_small types room known = go (ltb (rising 0 types) (length types))
  where
    go : (b : Bool) → value (fitted room (cond b (refusal 15 (rising 0 types ∷ [])) (answer (bitmap_of types)))) ≤ 65536
    go true = omega (arith, rising_small 0 65536 types known (omega arith))
    go false = fitted_small (bitmap_of types) room 65536 (omega (arith, bitmap_small types))
