-- What is answered and what is refused. A list is written exactly where it is a set (`set_written`, `written_set`). What is written is read
-- as it was (`written_read`), what is read is written as it was (`read_written`), and what is not read is refused at the place of the
-- longest beginning (`refused_longest`).
use mathlib.Core.Path.{◌≡◌, refl, sym, ap, ◌∙◌}
use mathlib.Core.List.{List, [], ◌∷◌}
use mathlib.Core.Bool.{Bool, true, false, cond, true≢false}
use Prim.Native.Nat.{ℕ, zero, suc, ◌+◌, ◌≤◌, ◌<◌}
use native.Mathlib.Omega.{arith}
use borrow.Author.Tests.{leb-true, le-leb, ltb-true, ltb-false, le-ltb}
use lib.Dec.{leb, ltb}
use lib.ListN.{length, take, get_or}
use lib.Seq.{length-take-le}
use Rattle.name.specs.Answer.{answer, refusal}
use Rattle.name.specs.Reader.{Read, found, stops}
use Rattle.name.proofs.Beginnings.{longest_unique}
use Rattle.types.specs.Sets.{RisesIn, none, rises, IsSet, rising}
use Rattle.types.specs.Bitmap.{bitmap_of, HasBitmap, IsBitmap, Longest}
use Rattle.types.specs.ReadTypes.{read_types}
use Rattle.types.specs.Answers.{of_types, read_types_of, write_types_of}
use Rattle.types.proofs.ReaderFinds.{bitmap_read, read_bitmap}
use Rattle.types.proofs.ReaderStops.{read_stops}

-- ---- lists that rise

pub rising_set : (least end : ℕ) (ts : List ℕ) → ((i : ℕ) → get_or ts i 0 < end) → rising least ts ≡ length ts → RisesIn least end ts
unfolding rising
rising_set least end [] k e = none
rising_set least end (t ∷ ts) k e = go (leb least t) refl e (rising_set (t + 1) end ts (λ i. k (suc i)))
  where
    go : (b : Bool) → leb least t ≡ b → cond b (suc (rising (t + 1) ts)) 0 ≡ length (t ∷ ts)
        → (rising (t + 1) ts ≡ length ts → RisesIn (t + 1) end ts) → RisesIn least end (t ∷ ts)
    go true h f ih = rises t (leb-true least t h) (k 0) (ih (omega arith))
    go false h f ih = absurd (omega arith)

rising_most : (least : ℕ) (ts : List ℕ) → rising least ts ≤ length ts
unfolding rising
rising_most least [] = omega arith
rising_most least (t ∷ ts) = go (leb least t) (rising_most (t + 1) ts)
  where
    go : (b : Bool) → rising (t + 1) ts ≤ length ts → cond b (suc (rising (t + 1) ts)) 0 ≤ length (t ∷ ts)
    go true ih = omega arith
    go false ih = omega arith

set_rising : {least end : ℕ} {ts : List ℕ} → RisesIn least end ts → rising least ts ≡ length ts
unfolding rising
set_rising none = refl
set_rising {least} (rises t a b r) = rw (le-leb least t a) (ap suc (set_rising r))

-- ---- what is written

pub set_written : (types : List ℕ) → IsSet types → write_types_of types ≡ answer (bitmap_of types)
set_written types r = rw (le-ltb (rising 0 types) (length types) (omega (arith, set_rising r)))

-- of types, which are below 65,536, only a set
pub written_set : (types octets : List ℕ) → ((i : ℕ) → get_or types i 0 < 65536) → write_types_of types ≡ answer octets → IsSet types
written_set types octets small e = go (ltb (rising 0 types) (length types)) refl e
  where
    go : (b : Bool) → ltb (rising 0 types) (length types) ≡ b
        → cond b (refusal 15 (rising 0 types ∷ [])) (answer (bitmap_of types)) ≡ answer octets
        → IsSet types
    go true t f = absurd (true≢false (cc))
    go false t f =
        rising_set 0 65536 types small (omega (arith, ltb-false (rising 0 types) (length types) t, rising_most 0 types))

-- the types before the index rise, and with the one at the index they do not
rising_front : (least end : ℕ) (ts : List ℕ) → ((i : ℕ) → get_or ts i 0 < end) → RisesIn least end (take (rising least ts) ts)
unfolding rising
rising_front least end [] k = none
rising_front least end (t ∷ ts) k = go (leb least t) refl (rising_front (t + 1) end ts (λ i. k (suc i)))
  where
    go : (b : Bool) → leb least t ≡ b → RisesIn (t + 1) end (take (rising (t + 1) ts) ts)
        → RisesIn least end (take (cond b (suc (rising (t + 1) ts)) 0) (t ∷ ts))
    go true h ih = rises t (leb-true least t h) (k 0) ih
    go false h ih = none

rising_take : (n least : ℕ) (ts : List ℕ) → rising least (take n ts) ≤ rising least ts
unfolding rising
rising_take zero least ts = omega arith
rising_take (suc n) least [] = omega arith
rising_take (suc n) least (t ∷ ts) = go (leb least t) (rising_take n (t + 1) ts)
  where
    go : (b : Bool) → rising (t + 1) (take n ts) ≤ rising (t + 1) ts
        → cond b (suc (rising (t + 1) (take n ts))) 0 ≤ cond b (suc (rising (t + 1) ts)) 0
    go true ih = omega arith
    go false ih = omega arith

pub index_first : (types : List ℕ) (i : ℕ) → ((j : ℕ) → get_or types j 0 < 65536) → write_types_of types ≡ refusal 15 (i ∷ [])
    → (i < length types) × IsSet (take i types) × (IsSet (take (i + 1) types) → ⊥)
index_first types i small e = go (ltb (rising 0 types) (length types)) refl e
  where
    go : (b : Bool) → ltb (rising 0 types) (length types) ≡ b
        → cond b (refusal 15 (rising 0 types ∷ [])) (answer (bitmap_of types)) ≡ refusal 15 (i ∷ [])
        → (i < length types) × IsSet (take i types) × (IsSet (take (i + 1) types) → ⊥)
    go true t f =
        let k : rising 0 types ≡ i = cc in
        let h : i < length types = rw k at (ltb-true (rising 0 types) (length types) t) in (
          h,
          rw k at (rising_front 0 65536 types small),
          λ r.
              omega (arith, set_rising r, rising_take (i + 1) 0 types, length-take-le (i + 1) types (omega arith)),
        )
    go false t f = absurd (true≢false (cc))

-- ---- there and back

pub written_read : (types octets : List ℕ) → IsSet types → write_types_of types ≡ answer octets → read_types_of octets ≡ answer types
written_read types octets r e =
    let b : octets ≡ bitmap_of types = cc (set_written types r) in
    rw (b, bitmap_read types r)

pub answered_bitmap : (octets types : List ℕ) → read_types_of octets ≡ answer types → HasBitmap types octets
answered_bitmap octets types e = go (read_types octets) refl e
  where
    go : (r : Read) → read_types octets ≡ r → of_types (λ ts. ts) r ≡ answer types → HasBitmap types octets
    go (found ts) f g = let s : ts ≡ types = cc in read_bitmap octets types (rw s at f)
    go (stops p) f g = absurd (true≢false (cc))

pub bitmap_answered : (octets types : List ℕ) → HasBitmap types octets → read_types octets ≡ found types
bitmap_answered octets types h = ap read_types (sym h.is) ∙ bitmap_read types h.set

pub read_written : (octets types : List ℕ) → read_types_of octets ≡ answer types → write_types_of types ≡ answer octets
read_written octets types e =
    let k = answered_bitmap octets types e in
    set_written types k.set ∙ ap answer k.is

-- ---- what is refused

pub refused_longest : (octets : List ℕ) (p : ℕ) → read_types_of octets ≡ refusal 15 (p ∷ []) → Longest octets p
refused_longest octets p e = go (read_types octets) refl e
  where
    go : (r : Read) → read_types octets ≡ r → of_types (λ ts. ts) r ≡ refusal 15 (p ∷ []) → Longest octets p
    go (found ts) f g = absurd (true≢false (cc))
    go (stops m) f g = let s : m ≡ p = cc in read_stops octets p (rw s at f)

pub none_refused : (octets : List ℕ) (p : ℕ) → (IsBitmap octets → ⊥) → Longest octets p → read_types_of octets ≡ refusal 15 (p ∷ [])
none_refused octets p n l = go (read_types octets) refl
  where
    go : (r : Read) → read_types octets ≡ r → read_types_of octets ≡ refusal 15 (p ∷ [])
    go (found ts) f = absurd (n (record { types = ts; has = read_bitmap octets ts f }))
    go (stops m) f = let s : m ≡ p = longest_unique IsBitmap octets m p (read_stops octets m f) l in rw (f, s)
