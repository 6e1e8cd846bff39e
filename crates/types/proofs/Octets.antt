-- The octets of a window and their types, over the number of octets and the first type: the octets of the types of octets are those
-- (`types_octets`), the types of the octets of types are those (`octets_types`), and the last octet is not 0 exactly where the last type is
-- one of its types (`octets_end`, `end_last`).
use mathlib.Core.Path.{◌≡◌, refl, ap}
use mathlib.Core.List.{List, [], ◌∷◌, append-nil}
use Prim.Native.Nat.{ℕ, zero, suc, ◌+◌, ◌-◌, ◌*◌, ◌≤◌, ◌<◌}
use native.Mathlib.Omega.{arith}
use lib.Pow.{pow_pos}
use lib.ListN.{length, get_or}
use Rattle.types.specs.Sets.{RisesIn, none, rises, below, from, last_of}
use Rattle.types.specs.Window.{bit_types, octet_types, octet_of, octets_of}
use Rattle.types.proofs.Sets.{rises_wider, rises_append, below_from, below_rises, from_rises, cut_all, cut_append}
use Rattle.types.proofs.Sets.{Last, last_behind, last_cons, last_in, last_from}
use Rattle.types.proofs.Bits.{bits_rise, bits_octet, octet_bits}

-- octets of which the last is not 0
abbrev pub Ends : List ℕ → Type 0
Ends [] = ⊥
Ends (o ∷ []) = (1 ≤ o) × (o ≤ 255)
Ends (o ∷ p ∷ s) = (o ≤ 255) × Ends (p ∷ s)

pub ends_first : (o : ℕ) (s : List ℕ) → Ends (o ∷ s) → o ≤ 255
ends_first o [] h = h.1
ends_first o (p ∷ s) h = h.0

-- the numbers of a list are octets, as an index finds them
abbrev pub Known : List ℕ → Type 0
Known s = (i : ℕ) → get_or s i 0 < 256

pub ends_known : (s : List ℕ) → Known s → 1 ≤ length s → 1 ≤ get_or s (length s - 1) 0 → Ends s
ends_known [] k h l = absurd (omega arith)
ends_known (o ∷ []) k h l = (l, omega (arith, k 0))
ends_known (o ∷ p ∷ s) k h l =
    let e : length (o ∷ p ∷ s) - 1 ≡ suc (length (p ∷ s) - 1) = omega arith in
    (omega (arith, k 0), ends_known (p ∷ s) (λ i. k (suc i)) (omega arith) (rw e at l))

pub types_rise : (first : ℕ) (s : List ℕ) → RisesIn first (first + 8 * length s) (octet_types first s)
unfolding octet_types
types_rise first [] = none
types_rise first (o ∷ s) =
    rises_append (bits_rise first 8 o) (rises_wider (types_rise (first + 8) s) (omega arith) (omega arith)) (omega arith) (omega arith)

-- ---- there and back

pub types_octets : (first : ℕ) (s : List ℕ) → Ends s → octets_of (length s) first (octet_types first s) ≡ s
unfolding octet_types octets_of
types_octets first [] h = refl
types_octets first (o ∷ []) h =
    let k = cut_append (bits_rise first 8 o) (types_rise (first + 8) []) in
    rw (k.0, bits_octet first 8 o (omega arith))
types_octets first (o ∷ p ∷ s) h =
    let k = cut_append (bits_rise first 8 o) (types_rise (first + 8) (p ∷ s)) in
    rw (k.0, k.1, bits_octet first 8 o (omega (arith, ends_first o (p ∷ s) h)))
    (ap (λ (t : List ℕ). o ∷ t) (types_octets (first + 8) (p ∷ s) h.1))

pub octets_types : (n first : ℕ) {ts : List ℕ} → RisesIn first (first + 8 * n) ts → octet_types first (octets_of n first ts) ≡ ts
unfolding octet_types octets_of
octets_types zero first none = refl
octets_types zero first (rises t a b r) = absurd (omega arith)
octets_types (suc n) first {ts} r =
    let e : first + 8 * suc n ≡ first + 8 + 8 * n = omega arith in
    rw ((octet_bits first 8 (below_rises (first + 8) r)).1, octets_types n (first + 8) (rw e at (from_rises (first + 8) r)))
    (below_from (first + 8) ts)

pub octets_length : (n first : ℕ) (ts : List ℕ) → length (octets_of n first ts) ≡ n
unfolding octets_of
octets_length zero first ts = refl
octets_length (suc n) first ts = ap suc (octets_length n (first + 8) (from (first + 8) ts))

-- ---- the last octet

some_octet : (end : ℕ) {ts : List ℕ} {last : ℕ} → Last ts last → 1 ≤ octet_of end ts
unfolding octet_of
some_octet end l = rw l.is (omega (arith, pow_pos (end - (l.head + 1))))

octets_cons : (n first : ℕ) (ts : List ℕ) → octet_of (first + 8) (below (first + 8) ts) ≤ 255
    → Ends (octets_of (suc n) (first + 8) (from (first + 8) ts))
    → Ends (octets_of (suc (suc n)) first ts)
unfolding octets_of
octets_cons n first ts h k = (h, k)

pub octets_end : (n first : ℕ) {ts : List ℕ} {last : ℕ} → RisesIn first (first + 8 * suc n) ts → Last ts last → first + 8 * n ≤ last
    → Ends (octets_of (suc n) first ts)
unfolding octets_of
octets_end zero first {ts} r l h =
    let e : first + 8 * 1 ≡ first + 8 = omega arith in
    let q : RisesIn first (first + 8) ts = rw e at r in
    rw (cut_all q).0 (some_octet (first + 8) l, omega (arith, (octet_bits first 8 q).0))
octets_end (suc n) first {ts} r l h =
    let e : first + 8 * suc (suc n) ≡ first + 8 + 8 * suc n = omega arith in
    octets_cons n first ts (omega (arith, (octet_bits first 8 (below_rises (first + 8) r)).0))
    (octets_end n (first + 8) (rw e at (from_rises (first + 8) r)) (last_from (first + 8) l (omega arith)) (omega arith))

-- the last of the types that an octet has
pub record Final (types : List ℕ) (least : ℕ) : Type 0 where
  pub last : ℕ
  pub ends : Last types last
  pub high : least ≤ last

bits_some : (first o : ℕ) → 1 ≤ o → o ≤ 255 → Final (bit_types first 8 o) first
unfolding octet_of
bits_some first o h k = go (bit_types first 8 o) (bits_rise first 8 o) (bits_octet first 8 o (omega arith))
  where
    go : (ts : List ℕ) → RisesIn first (first + 8) ts → octet_of (first + 8) ts ≡ o → Final ts first
    go [] r e = absurd (omega arith)
    go (t ∷ ts) r e = record { last = last_of t ts; ends = last_cons t; high = (last_in r (last_cons t)).0 }

pub end_last : (first : ℕ) (s : List ℕ) → Ends s → Final (octet_types first s) (first + 8 * (length s - 1))
unfolding octet_types
end_last first [] h = absurd h
end_last first (o ∷ []) h =
    let k = bits_some first o h.0 h.1 in
    record { last = k.last; ends = rw append-nil k.ends; high = omega (arith, k.high) }
end_last first (o ∷ p ∷ s) h =
    let k = end_last (first + 8) (p ∷ s) h.1 in
    record { last = k.last; ends = last_behind (bit_types first 8 o) k.ends; high = omega (arith, k.high) }
