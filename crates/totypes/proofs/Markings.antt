-- Bits set one by one: the octets of types with a type before them are the octets with its bit added (`octets_mark`). A window's types are
-- marked from the last to the first (`Marked`).
use mathlib.Core.Path.{◌≡◌, refl, sym, ap, ◌∙◌}
use mathlib.Core.List.{List, [], ◌∷◌}
use Prim.Native.Nat.{ℕ, zero, suc, ◌+◌, ◌-◌, ◌*◌, ◌/◌, ◌%◌, ◌^◌, ◌≤◌, ◌<◌}
use native.Mathlib.Nat.{add_comm}
use native.Mathlib.Decide.{dec_lt}
use native.Mathlib.Omega.{arith}
use borrow.Author.Tests.{lt-ltb, le-ltb}
use lib.ListN.{length, take, drop, get_or, set, replicate, take-append-drop, drop_of_length-le}
use lib.Seq.{take-take, drop-cons, get_or-take, get_or-drop, get_or-set_same, length-take-le}
use Rattle.space.specs.Private.Written.{Written}
use Rattle.space.proofs.Written.{written_set}
use Rattle.types.specs.Sets.{RisesIn, none, rises, below, from}
use Rattle.types.specs.Window.{octet_of, octets_of, octet_count}
use Rattle.types.proofs.Sets.{rises_wider, below_rises, from_rises, cut_none}
use Rattle.types.proofs.Bits.{half_bits, octet_bits}
use Rattle.types.proofs.Octets.{octets_length}
use Rattle.totypes.specs.Private.Marked.{last_type, Marking, Marks}
use Rattle.totypes.proofs.Risings.{rises_parts, last_taken}

pub octets_none : (n first : ℕ) → octets_of n first [] ≡ replicate n 0
unfolding octets_of octet_of below from
octets_none zero first = refl
octets_none (suc n) first = ap (λ (s : List ℕ). 0 ∷ s) (octets_none n (first + 8))

octets_low : (n first : ℕ) {ts : List ℕ} → RisesIn first (first + 8 * n) ts → (k : ℕ) → get_or (octets_of n first ts) k 0 < 256
unfolding octets_of
octets_low zero first r k = omega arith
octets_low (suc n) first r zero = (octet_bits first 8 (below_rises (first + 8) r)).0
octets_low (suc n) first r (suc k) =
    let e : first + 8 * suc n ≡ first + 8 + 8 * n = omega arith in
    octets_low n (first + 8) (rw e at (from_rises (first + 8) r)) k

-- the bit of a type is added to its octet
marked : ℕ → ℕ → List ℕ → List ℕ
marked first t s = set s ((t - first) / 8) (get_or s ((t - first) / 8) 0 + 2 ^ (7 - (t - first) % 8))

octets_mark : (n first t : ℕ) {ts : List ℕ} → RisesIn first (first + 8 * n) (t ∷ ts)
    → octets_of n first (t ∷ ts) ≡ marked first t (octets_of n first ts)
unfolding octets_of octet_of below from marked
octets_mark zero first t (rises u a b r) = absurd (omega arith)
octets_mark (suc n) first t {ts} (rises u a b r) = go (dec_lt t (first + 8)) (λ q. octets_mark n (first + 8) t q)
  where
    go : Dec (t < first + 8)
        → (RisesIn (first + 8) (first + 8 + 8 * n) (t ∷ ts)
        → octets_of n (first + 8) (t ∷ ts) ≡ marked (first + 8) t (octets_of n (first + 8) ts))
        → octets_of (suc n) first (t ∷ ts) ≡ marked first t (octets_of (suc n) first ts)
    go (yes h) ih =
        let z : (t - first) / 8 ≡ 0 = omega arith in
        let e : 7 - (t - first) % 8 ≡ first + 8 - (t + 1) = omega arith in
        rw (lt-ltb t (first + 8) h, z, e)
        (ap (λ (o : ℕ). o ∷ octets_of n (first + 8) (from (first + 8) ts)) (add_comm (2 ^ (first + 8 - (t + 1))) _))
    go (no h) ih =
        let m : first + 8 ≤ t = omega arith in
        let e : first + 8 * suc n ≡ first + 8 + 8 * n = omega arith in
        let q : RisesIn (first + 8) (first + 8 + 8 * n) (t ∷ ts) = rises t m (rw e at b) (rw e at r) in
        let p : RisesIn (first + 8) (first + 8 + 8 * n) ts = rises_wider (rw e at r) (omega arith) (omega arith) in
        let k : (t - first) / 8 ≡ suc ((t - (first + 8)) / 8) = omega arith in
        let l : (t - first) % 8 ≡ (t - (first + 8)) % 8 = omega arith in
        rw (le-ltb t (first + 8) m, (cut_none p).0, (cut_none p).1, k, l) (ap (λ (s : List ℕ). 0 ∷ s) (ih q))

-- ---- the types of a window

-- the types from the index i on are marked
pub record Marked (types : List ℕ) (end w : ℕ) (before : List ℕ) (start : ℕ) (after : List ℕ) (i : ℕ) : Type 0 where
  pub within : i ≤ end
  pub here : RisesIn (256 * w) (last_type types end + 1) (drop i (take end types))
  pub written :
      let n = octet_count (last_type types end) in
      Written before start start (octets_of n (256 * w) (drop i (take end types))) (start + n) (start + n) after

module _ {types : List ℕ} {end w : ℕ} {d : List ℕ} {start : ℕ} (m : Marking types end w d start) where
  abbrev last : ℕ
  last = last_type types end

  abbrev n : ℕ
  n = octet_count last

  pub marked_none : Marked types end w d start d end
  marked_none =
      let size : length (take end types) ≡ end = length-take-le end types m.within in
      let e : drop end (take end types) ≡ [] = drop_of_length-le (take end types) {i = end} (omega arith) in
      record { within = omega arith; here = rw e none; written = rw (e, octets_none n (256 * w)) m.zeros }

  module _ {e : List ℕ} {i : ℕ} (k : Marked types end w d start e i) (more : 0 < i) where
    abbrev t : ℕ
    t = get_or types (i - 1) 0

    -- the types before the index i rise to t, and those from it on rise from there
    parted : RisesIn 0 (t + 1) (take i types) × RisesIn (t + 1) (last + 1) (drop i (take end types)) × (t < last + 1)
    parted =
        rises_parts (rw (← (take-take i end types k.within), take-append-drop i (take end types)) m.rise)
        (last_taken types i more (omega (arith, m.within)))

    -- a type of another window ends it
    pub marked_other : (t / 256 ≡ w → ⊥) → Marks types end w d start i e
    marked_other h = record {
      less = go (dec_lt i end);
      lower = rises_wider parted.0 (omega arith) (omega (arith, parted.2, m.number));
      here = k.here;
      written = k.written;
    }
      where
        go : Dec (i < end) → i < end
        go (yes l) = l
        go (no l) =
            let e : i ≡ end = omega (arith, k.within) in
            absurd (h (rw e (sym m.number)))

    module _ (same : t / 256 ≡ w) where
      front : drop (i - 1) (take end types) ≡ t ∷ drop i (take end types)
      front =
          let size : length (take end types) ≡ end = length-take-le end types m.within in
          let e : suc (i - 1) ≡ i = omega arith in
          drop-cons (take end types) (i - 1) 0 (omega (arith, k.within))
          ∙ rw (get_or-take end types (i - 1) 0 (omega (arith, k.within)), e)

      more_here : RisesIn (256 * w) (last + 1) (t ∷ drop i (take end types))
      more_here = let low : 256 * w ≤ t = omega arith in rises t low parted.2 parted.1

      -- the octets before this type is marked, and the place of its bit
      abbrev octets : List ℕ
      octets = octets_of n (256 * w) (drop i (take end types))

      abbrev at : ℕ
      at = t % 256 / 8

      in_octets : RisesIn (256 * w) (256 * w + 8 * n) (t ∷ drop i (take end types))
      in_octets = rises_wider more_here (omega arith) (omega (arith, m.number))

      at_in : at < length octets
      at_in = omega (arith, octets_length n (256 * w) (drop i (take end types)), parted.2, m.number)

      octet_at : get_or e (start + at) 0 ≡ get_or octets at 0
      octet_at =
          sym (get_or-take (start + n) e (start + at) 0 (omega (arith, at_in, octets_length n (256 * w) (drop i (take end types)))))
          ∙ sym (get_or-drop start (take (start + n) e) at 0) ∙ ap (λ (s : List ℕ). get_or s at 0) k.written.octets

      abbrev octet : ℕ
      octet = get_or e (start + at) 0 + 128 / 2 ^ (t % 8)

      with_bit : octets_of n (256 * w) (t ∷ drop i (take end types)) ≡ set octets at octet
      unfolding marked
      with_bit =
          let a : (t - 256 * w) / 8 ≡ at = omega arith in
          let b : (t - 256 * w) % 8 ≡ t % 8 = omega arith in
          octets_mark n (256 * w) t in_octets ∙ rw (a, b, octet_at, half_bits (t % 8) (omega arith))

      pub marked_index : start + t % 256 / 8 < length e
      marked_index = omega (arith, at_in, octets_length n (256 * w) (drop i (take end types)), k.written.room, k.written.size)

      pub marked_low : octet < 256
      marked_low = rw (with_bit, get_or-set_same octets at octet 0 at_in) at (octets_low n (256 * w) in_octets at)

      pub marked_more : Marked types end w d start (set e (start + at) octet) (i - 1)
      marked_more = record {
        within = omega (arith, k.within);
        here = rw front more_here;
        written = rw (front, with_bit) (written_set k.written at (start + at) octet at_in refl);
      }

  pub marked_all : {e : List ℕ} {i : ℕ} → Marked types end w d start e i → i ≤ 0 → Marks types end w d start 0 e
  marked_all {e} {i} k h =
      let z : i ≡ 0 = omega arith in
      record { less = m.some; lower = none; here = rw z at k.here; written = rw z at k.written }
