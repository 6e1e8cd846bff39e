-- Request Five holds: from the laws of windows, of the reader and of the bitmap of a set.
use mathlib.Core.Path.{◌≡◌, refl, sym, ap, ◌∙◌}
use mathlib.Core.Bool.{Bool, true, false, cond, true≢false}
use mathlib.Core.List.{List, [], ◌∷◌, append-nil}
use mathlib.Core.Logic.{◌⊎◌, ◌↔◌, inl, inr}
use Prim.Native.Nat.{ℕ, zero, suc, ◌+◌, ◌-◌, ◌*◌, ◌/◌, ◌%◌, ◌^◌, ◌≤◌, ◌<◌}
use native.Mathlib.Omega.{arith}
use borrow.Author.Tests.{eqb-true, eq-eqb}
use lib.Dec.{eqb}
use lib.ListN.{length, get_or}
use Rattle.space.specs.Octets.{Octets}
use Rattle.name.specs.Answer.{Result, answer, refusal, fitted}
use Rattle.name.specs.Reader.{Read, found, stops}
use Rattle.name.proofs.Answers.{answer_injective}
use Rattle.types.specs.Sets.{none, has, last_of}
use Rattle.types.specs.Window.{octet_types}
use Rattle.types.specs.Bitmap.{HasBitmap, IsBitmap, Longest}
use Rattle.types.specs.ReadTypes.{read_number, read_types}
use Rattle.types.specs.Answers.{of_types, read_types_of, has_type_of, count_types_of, smallest_type_of, largest_type_of}
use Rattle.types.proofs.Octets.{Ends, ends_known}
use Rattle.types.proofs.Members.{has_among, among_has, bits_has, octets_has}
use Rattle.types.proofs.Windows.{none_written}
use Rattle.types.proofs.ReaderFinds.{read_window, bitmap_injective}
use Rattle.types.proofs.Answered.{set_written, index_first, written_read, answered_bitmap, bitmap_answered, refused_longest, none_refused}
use Rattle.types.proofs.Examples.{example_read}
use Rattle.demands.specs.Lines.{ReadLines}
use Rattle.demands.specs.Types.{WindowOctets, Among, Types}
use Rattle.demands.proofs.Lines.{read_lines}

-- ---- one window

octet_at : (s : List ℕ) → Octets s → (i : ℕ) → get_or s i 0 < 256
octet_at [] h i = omega arith
octet_at (o ∷ s) h zero = h.0
octet_at (o ∷ s) h (suc i) = octet_at s h.1 i

window_read : (w : ℕ) (octets : List ℕ) → w ≤ 255 → WindowOctets octets
    → read_types_of (w ∷ length octets ∷ octets) ≡ answer (octet_types (256 * w) octets)
unfolding read_number
window_read w octets h k =
    let d : Ends octets = ends_known octets (octet_at octets k.are) k.some k.last in
    let e = read_window 0 0 w octets [] (omega arith) h k.most d in
    ap (of_types (λ types. types)) (rw (append-nil octets, append-nil (octet_types (256 * w) octets)) at e)

window_bit : (w t : ℕ) (octets : List ℕ) → WindowOctets octets → 256 * w ≤ t → t < 256 * w + 8 * length octets
    → has t (octet_types (256 * w) octets) ≡ true ↔ get_or octets (t % 256 / 8) 0 / 2 ^ (7 - t % 8) % 2 ≡ 1
window_bit w t octets k a b =
    let i : ℕ = t % 256 / 8 in
    let e : 256 * w + 8 * i + 8 - (t + 1) ≡ 7 - t % 8 = omega (arith, k.most) in
    let h = octets_has (256 * w) i t octets (omega (arith, k.most)) (omega (arith, k.most)) (omega (arith, k.most)) in
    let l =
    bits_has (256 * w + 8 * i) 8 (get_or octets i 0) t (omega (arith, k.most)) (omega (arith, k.most)) (octet_at octets k.are i) in
    let m : has t (octet_types (256 * w) octets) ≡ eqb (get_or octets i 0 / 2 ^ (7 - t % 8) % 2) 1 = h ∙ rw e at l in
    (λ y. eqb-true _ 1 (sym m ∙ y), λ y. m ∙ eq-eqb _ 1 y)

-- ---- the reader

not_read : (octets types : List ℕ) (p : ℕ) → read_types_of octets ≡ refusal 15 (p ∷ []) → HasBitmap types octets → ⊥
not_read octets types p e h =
    let k : ◌≡◌ {A = Result (List ℕ)} (answer types) (refusal 15 (p ∷ [])) =
    sym (ap (of_types (λ ts. ts)) (bitmap_answered octets types h)) ∙ e in
    true≢false (cc)

answered_or_refused : (octets : List ℕ)
    → ((a : List ℕ) × (read_types_of octets ≡ answer a)) ⊎ ((p : ℕ) × (read_types_of octets ≡ refusal 15 (p ∷ [])))
answered_or_refused octets = go (read_types octets) refl
  where
    go : (r : Read) → read_types octets ≡ r
        → ((a : List ℕ) × (read_types_of octets ≡ answer a)) ⊎ ((p : ℕ) × (read_types_of octets ≡ refusal 15 (p ∷ [])))
    go (found ts) e = inl (ts, rw e)
    go (stops p) e = inr (p, rw e)

types_lines : (octets : List ℕ) (room : ℕ) → ReadLines (fitted room (read_types_of octets)) 15 IsBitmap octets room (read_types_of octets)
types_lines octets room =
    read_lines 15 IsBitmap read_types_of (λ s a e. record { types = a; has = answered_bitmap s a e })
    (λ s p e h. not_read s h.types p e h.has) refused_longest octets room (answered_or_refused octets)

types_place : (octets : List ℕ) (p : ℕ) → read_types_of octets ≡ refusal 15 (p ∷ []) ↔ (IsBitmap octets → ⊥) × Longest octets p
types_place octets p =
    (λ e. (λ h. not_read octets h.types p e h.has, refused_longest octets p e), λ h. none_refused octets p h.0 h.1)

-- ---- what is asked of a set

member_told : (types octets : List ℕ) (t : ℕ) → HasBitmap types octets
    → (has_type_of octets t ≡ answer 1 ↔ Among t types) × (has_type_of octets t ≡ answer 0 ↔ (Among t types → ⊥))
member_told types octets t h = go (has t types) refl
  where
    told : has_type_of octets t ≡ answer (cond (has t types) 1 0)
    told = ap (of_types (λ ts. cond (has t ts) 1 0)) (bitmap_answered octets types h)

    go : (b : Bool) → has t types ≡ b
        → (has_type_of octets t ≡ answer 1 ↔ Among t types) × (has_type_of octets t ≡ answer 0 ↔ (Among t types → ⊥))
    go true e =
        let one : has_type_of octets t ≡ answer 1 = told ∙ rw e in (
          (λ _. has_among t types e, λ _. one),
          (λ z. absurd (omega (arith, answer_injective (sym one ∙ z))), λ n. absurd (n (has_among t types e))),
        )
    go false e =
        let zero-told : has_type_of octets t ≡ answer 0 = told ∙ rw e in (
          (
            λ z. absurd (omega (arith, answer_injective (sym zero-told ∙ z))),
            λ a. absurd (true≢false (sym (among_has t types a.0 a.1 a.2) ∙ e)),
          ),
          (λ _ a. true≢false (sym (among_has t types a.0 a.1 a.2) ∙ e), λ _. zero-told),
        )

last_at : (t : ℕ) (ts : List ℕ) → last_of t ts ≡ get_or (t ∷ ts) (length ts) 0
last_at t [] = refl
last_at t (u ∷ ts) = last_at u ts

extremes_told : (t : ℕ) (types octets : List ℕ) → HasBitmap (t ∷ types) octets
    → (smallest_type_of octets ≡ answer (1 + t)) × (largest_type_of octets ≡ answer (1 + get_or (t ∷ types) (length types) 0))
extremes_told t types octets h =
    let e = bitmap_answered octets (t ∷ types) h in
    (rw e, rw (e, last_at t types))

refused_alike : (octets : List ℕ) (p t : ℕ) → read_types_of octets ≡ refusal 15 (p ∷ [])
    → (has_type_of octets t ≡ refusal 15 (p ∷ [])) × (count_types_of octets ≡ refusal 15 (p ∷ []))
    × (smallest_type_of octets ≡ refusal 15 (p ∷ [])) × (largest_type_of octets ≡ refusal 15 (p ∷ []))
refused_alike octets p t e = go (read_types octets) refl e
  where
    go : (r : Read) → read_types octets ≡ r → of_types (λ ts. ts) r ≡ refusal 15 (p ∷ [])
        → (has_type_of octets t ≡ refusal 15 (p ∷ [])) × (count_types_of octets ≡ refusal 15 (p ∷ []))
        × (smallest_type_of octets ≡ refusal 15 (p ∷ [])) × (largest_type_of octets ≡ refusal 15 (p ∷ []))
    go (found ts) f g = absurd (true≢false (cc))
    go (stops m) f g = let s : m ≡ p = cc in (rw (f, s), rw (f, s), rw (f, s), rw (f, s))

empty_told : HasBitmap [] [] × (smallest_type_of [] ≡ answer 0) × (largest_type_of [] ≡ answer 0)
unfolding read_number
empty_told = (record { set = none; is = none_written 256 0 }, refl, refl)

-- ---- the request

pub types : Types
types = record {
  window = window_read;
  bit = window_bit;
  reads = λ octets ts. (answered_bitmap octets ts, λ h. ap (of_types (λ us. us)) (bitmap_answered octets ts h));
  read = types_lines;
  place = types_place;
  writes = set_written;
  index = λ ts i k e. index_first ts i k e;
  one_bitmap = λ ts octets other h k. sym h.is ∙ k.is;
  one_set = λ ts others octets h k. bitmap_injective ts others h.set k.set (h.is ∙ sym k.is);
  read_back = written_read;
  member = member_told;
  count = λ ts octets h. ap (of_types (λ us. length us)) (bitmap_answered octets ts h);
  extremes = extremes_told;
  refused = refused_alike;
  empty = empty_told;
  example = answered_bitmap _ _ example_read;
}
