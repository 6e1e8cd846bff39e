-- How a list is surveyed: up to the index i its types rise, the size counts the windows that have ended, and with what the types from the
-- last one on take it is the size of all (`Surveying`).
use mathlib.Core.Path.{◌≡◌, refl, sym, ap, ◌∙◌}
use mathlib.Core.List.{List, [], ◌∷◌}
use Prim.Native.Nat.{ℕ, ◌+◌, ◌*◌, ◌/◌, ◌≤◌, ◌<◌}
use native.Mathlib.Omega.{arith}
use borrow.Author.Tests.{le-leb, lt-leb, eq-eqb, ne_eqb}
use lib.ListN.{length, drop, get_or, drop_of_length-le}
use Rattle.facts.proofs.Lists.{drop_next, length_none}
use Rattle.types.specs.Sets.{none, rising}
use Rattle.types.specs.Bitmap.{bitmap_of}
use Rattle.totypes.specs.Private.Surveyed.{window_size}
use Rattle.types.proofs.Answered.{rising_set}
use Rattle.totypes.proofs.Sizes.{size_from, size_of, bitmap_size}

pub survey_none : (types : List ℕ) → length types ≡ 0 → (rising 0 types ≡ length types) × (0 ≡ length (bitmap_of types))
unfolding rising
survey_none types e =
    let n : types ≡ [] = length_none types (omega arith) in
    rw n (refl, sym (bitmap_size 256 0 {ts = []} none))

rising_falls : (last t : ℕ) (ts : List ℕ) → t ≤ last → rising (last + 1) (t ∷ ts) ≡ 0
unfolding rising
rising_falls last t ts h = rw (lt-leb (last + 1) t (omega arith))

rising_more : (least t : ℕ) (ts : List ℕ) → least ≤ t → rising least (t ∷ ts) ≡ 1 + rising (t + 1) ts
unfolding rising
rising_more least t ts h = rw (le-leb least t h) (omega arith)

pub record Surveying (types : List ℕ) (size last i : ℕ) : Type 0 where
  pub within : i ≤ length types
  pub some : 1 ≤ i
  pub high : last < 65536
  pub few : i ≤ last + 1
  pub small : size ≤ 34 * i
  pub sizes : size + size_from last (drop i types) ≡ size_of types
  pub rises : rising 0 types ≡ i + rising (last + 1) (drop i types)

module _ {types : List ℕ} (known : (i : ℕ) → get_or types i 0 < 65536) where
  pub surveying_start : 0 < length types → Surveying types 0 (get_or types 0 0) 1
  surveying_start h =
      let e : types ≡ get_or types 0 0 ∷ drop 1 types = drop_next types 0 0 h in
      record {
        within = h;
        some = omega arith;
        high = known 0;
        few = omega arith;
        small = omega arith;
        sizes = omega (arith, ap size_of e);
        rises = ap (rising 0) e ∙ rising_more 0 (get_or types 0 0) (drop 1 types) (omega arith);
      }

  module _ {size last i : ℕ} (s : Surveying types size last i) where
    module _ (inside : i < length types) where
      abbrev t : ℕ
      t = get_or types i 0

      pub surveying_falls : t ≤ last → rising 0 types ≡ i
      surveying_falls h =
          omega (arith, s.rises, ap (rising (last + 1)) (drop_next types i 0 inside), rising_falls last t (drop (i + 1) types) h)

      module _ (more : last < t) where
        -- a window ends, or none does
        step : (n : ℕ) → n ≤ 34 → size_from last (t ∷ drop (i + 1) types) ≡ n + size_from t (drop (i + 1) types)
            → Surveying types (size + n) t (i + 1)
        step n h e =
            let d = drop_next types i 0 inside in
            record {
              within = omega arith;
              some = omega arith;
              high = known i;
              few = omega (arith, s.few);
              small = omega (arith, s.small);
              sizes = omega (arith, s.sizes, ap (size_from last) d);
              rises =
                  omega (arith, s.rises, ap (rising (last + 1)) d, rising_more (last + 1) t (drop (i + 1) types) (omega arith));
            }

        pub surveying_same : t / 256 ≡ last / 256 → Surveying types size t (i + 1)
        unfolding size_from
        surveying_same h =
            let z : size + 0 ≡ size = omega arith in
            rw z at (step 0 (omega arith) (rw (eq-eqb (t / 256) (last / 256) h)))

        pub surveying_next : (t / 256 ≡ last / 256 → ⊥) → Surveying types (size + window_size last) t (i + 1)
        unfolding size_from
        surveying_next h = step (window_size last) (omega arith) (rw (ne_eqb (t / 256) (last / 256) h))

    pub surveying_all : length types ≤ i → (rising 0 types ≡ length types) × (size + window_size last ≡ length (bitmap_of types))
    unfolding size_from rising
    surveying_all h =
        let d = drop_of_length-le types {i = i} h in
        let r : rising 0 types ≡ length types = omega (arith, s.rises, s.within, ap (rising (last + 1)) d) in
        (r, omega (arith, s.sizes, ap (size_from last) d, bitmap_size 256 0 (rising_set 0 65536 types known r)))
