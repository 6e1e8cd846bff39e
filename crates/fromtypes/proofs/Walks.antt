-- How the check walks a bitmap: it is where the reader is (`Walk`), each of its tests is the reader's, and of the octets of a window only
-- the last is looked at, since any other may stand there.
use mathlib.Core.Path.{◌≡◌, sym, ap, ◌∙◌}
use mathlib.Core.List.{List, [], ◌∷◌, ◌++◌, append-nil}
use mathlib.Core.Bool.{false}
use Prim.Native.Nat.{ℕ, zero, suc, ◌+◌, ◌-◌, ◌*◌, ◌≤◌, ◌<◌}
use native.Mathlib.Omega.{arith}
use borrow.Author.Tests.{lt-leb}
use lib.ListN.{length, take, drop, get_or, length-drop, take-append-drop, drop_of_length-le}
use lib.Seq.{length-take-le, get_or-drop, get_or-take, drop-drop, take_all}
use Rattle.facts.proofs.Booleans.{never_true}
use Rattle.facts.proofs.Lists.{drop_next}
use Rattle.name.specs.Reader.{found, stops}
use Rattle.types.specs.Window.{octet_types}
use Rattle.types.specs.ReadTypes.{before, count_fits, read_number, read_count, read_octets, read_types}
use Rattle.types.proofs.Octets.{Ends, Known, ends_known}
use Rattle.types.proofs.ReaderFinds.{count_told, before_none, before_append, read_number_lem, read_count_lem, read_octet, read_window}
use Rattle.fromtypes.specs.Private.Checked.{types_found, types_of, IsRead, LastWindow}

pub known_drop : (n : ℕ) (s : List ℕ) → Known s → Known (drop n s)
known_drop n s k = λ i. rw (get_or-drop n s i 0) (k (n + i))

known_take : (n : ℕ) (s : List ℕ) → Known s → Known (take n s)
known_take zero s k i = omega arith
known_take (suc n) [] k i = k i
known_take (suc n) (o ∷ s) k zero = k 0
known_take (suc n) (o ∷ s) k (suc i) = known_take n s (λ j. k (suc j)) i

-- ---- the octets of a window

octets_cut : (w first more p : ℕ) (s : List ℕ) → Known s → length s ≤ more → read_octets w first more p s ≡ stops (p + length s)
unfolding read_octets
octets_cut w first more p [] k h = let e : p + 0 ≡ p = omega arith in rw e
octets_cut w first zero p (o ∷ s) k h = absurd (omega arith)
octets_cut w first (suc more) p (o ∷ s) k h =
    let e : p + 1 + length s ≡ p + length (o ∷ s) = omega arith in
    read_octet w first more p o s (omega (arith, k 0)) ∙ rw (octets_cut w (first + 8) more (p + 1) s (λ i. k (suc i)) (omega arith), e)

octets_zero : (w first more p : ℕ) (s : List ℕ) → Known s → more < length s → get_or s more 0 ≡ 0
    → read_octets w first more p s ≡ stops (p + more)
unfolding read_octets
octets_zero w first more p [] k h z = absurd (omega arith)
octets_zero w first zero p (o ∷ s) k h z = let e : p + 0 ≡ p = omega arith in rw (z, e)
octets_zero w first (suc more) p (o ∷ s) k h z =
    let e : p + 1 + more ≡ p + suc more = omega arith in
    read_octet w first more p o s (omega (arith, k 0)) ∙ rw (octets_zero w (first + 8) more (p + 1) s (λ i. k (suc i)) (omega arith) z, e)

-- ---- where the check is

-- the last window before the place p begins at the place `last`
pub record Passed (bitmap done : List ℕ) (last p : ℕ) : Type 0 where
  pub earlier : List ℕ
  pub within : last + 3 ≤ p
  pub most : p ≤ last + 34
  pub high : 1 ≤ get_or bitmap (p - 1) 0
  pub is : done ≡ earlier ++ octet_types (256 * get_or bitmap last 0) (take (p - (last + 2)) (drop (last + 2) bitmap))

pub record Walk (bitmap : List ℕ) (least last p : ℕ) : Type 0 where
  pub within : p ≤ length bitmap
  pub done : List ℕ
  pub is : read_types bitmap ≡ before done (read_number least p (drop p bitmap))
  pub passed : 1 ≤ p → Passed bitmap done last p

pub walk_start : (bitmap : List ℕ) → Walk bitmap 0 0 0
walk_start bitmap = record { within = omega arith; done = []; is = sym (before_none _); passed = λ h. absurd (omega arith) }

pub walk_end : {bitmap : List ℕ} {least last p : ℕ} → Walk bitmap least last p → length bitmap ≤ p
    → IsRead bitmap × (1 ≤ length bitmap → LastWindow bitmap last)
unfolding read_number
walk_end {bitmap} {least} {last} {p} w h =
    let e : read_types bitmap ≡ found w.done = w.is ∙ rw (drop_of_length-le bitmap {i = p} h, append-nil) in
    let t : types_of bitmap ≡ w.done = ap types_found e in
    let z : p ≡ length bitmap = omega (arith, w.within) in (
      e ∙ ap found (sym t),
      λ some.
          let k = w.passed (omega arith) in
          record {
            earlier = k.earlier;
            within = omega (arith, k.within);
            most = omega (arith, k.most);
            high = rw z at k.high;
            is = t ∙ k.is ∙ rw (take_all (p - (last + 2)) (drop (last + 2) bitmap) (omega (arith, length-drop (last + 2) bitmap)));
          },
    )

-- ---- the tests at the place p

module _ {bitmap : List ℕ} {least last p : ℕ} (walk : Walk bitmap least last p) (known : Known bitmap) (inside : p < length bitmap) where
  abbrev w : ℕ
  w = get_or bitmap p 0

  abbrev n : ℕ
  n = get_or bitmap (p + 1) 0

  -- the reader stops where it stops from here on
  stopped : (m : ℕ) → read_number least p (w ∷ drop (p + 1) bitmap) ≡ stops m → read_types bitmap ≡ stops m
  stopped m e = walk.is ∙ rw (drop_next bitmap p 0 inside, e)

  pub walk_falls : w < least → read_types bitmap ≡ stops p
  unfolding read_number
  walk_falls h = stopped p (rw (lt-leb least w h))

  module _ (rises : least ≤ w) where
    counted : (m : ℕ) → read_count w (p + 1) (drop (p + 1) bitmap) ≡ stops m → read_types bitmap ≡ stops m
    counted m e = stopped m (read_number_lem least p w (drop (p + 1) bitmap) rises (omega (arith, known p)) ∙ e)

    pub walk_number_alone : length bitmap ≤ p + 1 → read_types bitmap ≡ stops (p + 1)
    unfolding read_count
    walk_number_alone h = counted (p + 1) (rw (drop_of_length-le bitmap {i = p + 1} h))

    module _ (more : p + 1 < length bitmap) where
      pub walk_count : ((1 ≤ n) × (n ≤ 32) → ⊥) → read_types bitmap ≡ stops (p + 1)
      unfolding read_count
      walk_count h =
          let e : count_fits n ≡ false = never_true (count_fits n) (λ k. h (count_told n k)) in
          counted (p + 1) (rw (drop_next bitmap (p + 1) 0 more, e))

      module _ (some : 1 ≤ n) (most : n ≤ 32) where
        abbrev octets : List ℕ
        octets = drop (p + 1 + 1) bitmap

        in_octets : (m : ℕ) → read_octets w (256 * w) (n - 1) (p + 1 + 1) octets ≡ stops m → read_types bitmap ≡ stops m
        in_octets m e =
            counted m (ap (read_count w (p + 1)) (drop_next bitmap (p + 1) 0 more)
            ∙ read_count_lem w (p + 1) n (drop (p + 1 + 1) bitmap) some most ∙ e)

        pub walk_cut : length bitmap ≤ p + 1 + n → read_types bitmap ≡ stops (length bitmap)
        walk_cut h =
            let l = length-drop (p + 1 + 1) bitmap in
            let e : p + 1 + 1 + length octets ≡ length bitmap = omega arith in
            in_octets (length bitmap)
            (octets_cut w (256 * w) (n - 1) (p + 1 + 1) octets (known_drop (p + 1 + 1) bitmap known) (omega arith) ∙ ap stops e)

        module _ (whole : p + 1 + n < length bitmap) where
          pub walk_zero : get_or bitmap (p + 1 + n) 0 ≡ 0 → read_types bitmap ≡ stops (p + 1 + n)
          walk_zero z =
              let l = length-drop (p + 1 + 1) bitmap in
              let e : p + 1 + 1 + (n - 1) ≡ p + 1 + n = omega arith in
              in_octets (p + 1 + n)
              (octets_zero w (256 * w) (n - 1) (p + 1 + 1) octets (known_drop (p + 1 + 1) bitmap known) (omega arith)
              (get_or-drop (p + 1 + 1) bitmap (n - 1) 0 ∙ rw e z) ∙ ap stops e)

          pub walk_next : 1 ≤ get_or bitmap (p + 1 + n) 0 → Walk bitmap (w + 1) p (p + 1 + n + 1)
          walk_next high =
              let l : length (take n octets) ≡ n = length-take-le n octets (omega (arith, length-drop (p + 1 + 1) bitmap)) in
              let e : p + 1 + 1 + n ≡ p + 1 + n + 1 = omega arith in
              let f : p + 2 + n ≡ p + 1 + n + 1 = omega arith in
              let i : p + 1 + 1 + (n - 1) ≡ p + 1 + n = omega arith in
              let rest : octets ≡ take n octets ++ drop (p + 1 + n + 1) bitmap =
              sym (take-append-drop n octets) ∙ ap (λ (s : List ℕ). take n octets ++ s) (drop-drop n (p + 1 + 1) bitmap ∙ rw e) in
              let here : drop p bitmap ≡ w ∷ n ∷ take n octets ++ drop (p + 1 + n + 1) bitmap =
              drop_next bitmap p 0 inside ∙ ap (λ (s : List ℕ). w ∷ s) (drop_next bitmap (p + 1) 0 more)
              ∙ ap (λ (s : List ℕ). w ∷ n ∷ s) rest in
              let last_octet : get_or (take n octets) (n - 1) 0 ≡ get_or bitmap (p + 1 + n) 0 =
              get_or-take n octets (n - 1) 0 (omega arith) ∙ get_or-drop (p + 1 + 1) bitmap (n - 1) 0 ∙ rw i in
              let d : Ends (take n octets) =
              ends_known (take n octets) (known_take n octets (known_drop (p + 1 + 1) bitmap known)) (omega arith)
              (rw (l, last_octet) high) in
              let g : p + 1 + n + 1 - (p + 2) ≡ n = omega arith in
              let h : p + 1 + n + 1 - 1 ≡ p + 1 + n = omega arith in
              let two : p + 2 ≡ p + 1 + 1 = omega arith in
              let read =
              read_window least p w (take n octets) (drop (p + 1 + n + 1) bitmap) rises (omega (arith, known p)) (omega arith) d in
              record {
                within = omega arith;
                done = walk.done ++ octet_types (256 * w) (take n octets);
                is =
                    walk.is ∙ ap (before walk.done) (ap (read_number least p) here ∙ rw (l, f) at read)
                    ∙ before_append walk.done (octet_types (256 * w) (take n octets))
                    (read_number (w + 1) (p + 1 + n + 1) (drop (p + 1 + n + 1) bitmap));
                passed = λ _. record {
                  earlier = walk.done;
                  within = omega arith;
                  most = omega arith;
                  high = rw h high;
                  is = rw (g, two);
                };
              }
