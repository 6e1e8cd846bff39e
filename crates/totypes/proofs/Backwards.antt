-- A bitmap written from its last window to its first: the bitmap of types before a window and of its types is the bitmap of the former with
-- the window behind it (`bitmap_last`). What is written so far is the end of the bitmap (`Backward`).
use mathlib.Core.Path.{◌≡◌, refl, sym, ap, ◌∙◌}
use mathlib.Core.List.{List, [], ◌∷◌, ◌++◌, append_assoc, append-nil}
use Prim.Native.Nat.{ℕ, zero, suc, ◌+◌, ◌-◌, ◌*◌, ◌/◌, ◌≤◌, ◌<◌}
use native.Mathlib.Decide.{dec_lt}
use native.Mathlib.Omega.{arith}
use lib.ListN.{length, take, drop, set, replicate, length-append, length-replicate, length-set, take-append-drop}
use lib.Seq.{take-take, take-length}
use Rattle.space.specs.Octets.{overlay}
use Rattle.space.specs.Private.Put.{put}
use Rattle.space.specs.Private.Written.{Written}
use Rattle.space.proofs.Written.{written_none, written_octet, written_before, written_over, written_there, written_front}
use Rattle.space.proofs.Putting.{put_written}
use Rattle.types.specs.Sets.{RisesIn, none, rises, IsSet, below, from}
use Rattle.types.specs.Window.{octets_of, octet_count, window_of}
use Rattle.types.specs.Bitmap.{windows_of, bitmap_of}
use Rattle.types.proofs.Sets.{rises_wider, below_from, below_rises, from_rises, cut_all, cut_behind, cut_append, Last, last_from}
use Rattle.types.proofs.Octets.{octets_length}
use Rattle.types.proofs.Windows.{none_written, window_is}
use Rattle.totypes.specs.Private.Marked.{last_type, Marking, Marks}
use Rattle.totypes.proofs.Risings.{rises_parts, last_taken}

no_rise : {m : ℕ} {xs : List ℕ} → RisesIn m m xs → xs ≡ []
no_rise none = refl
no_rise (rises t a b r) = absurd (omega arith)

windows_last : (n v w : ℕ) {xs ys : List ℕ} → RisesIn (256 * v) (256 * w) xs → RisesIn (256 * w) (256 * w + 256) ys → v ≤ w → w < v + n
    → windows_of n v (xs ++ ys) ≡ windows_of n v xs ++ window_of w ys
unfolding windows_of
windows_last zero v w r q h k = absurd (omega arith)
windows_last (suc n) v w {xs} {ys} r q h k = go (dec_lt v w) (λ p a. windows_last n (v + 1) w p q a (omega arith))
  where
    go : Dec (v < w)
        → (RisesIn (256 * (v + 1)) (256 * w) (from (256 * v + 256) xs) → v + 1 ≤ w
        → windows_of n (v + 1) (from (256 * v + 256) xs ++ ys) ≡ windows_of n (v + 1) (from (256 * v + 256) xs) ++ window_of w ys)
        → windows_of (suc n) v (xs ++ ys) ≡ windows_of (suc n) v xs ++ window_of w ys
    go (yes l) ih =
        let p : RisesIn (256 * v + 256) (256 * w + 256) ys = rises_wider q (omega arith) (omega arith) in
        let c = cut_behind xs p in
        let f : RisesIn (256 * (v + 1)) (256 * w) (from (256 * v + 256) xs) =
        rises_wider (from_rises (256 * v + 256) r) (omega arith) (omega arith) in
        rw (c.0, c.1, ih f (omega arith)) (sym (append_assoc (window_of v (below (256 * v + 256) xs)) _ _))
    go (no l) ih =
        let e : v ≡ w = omega arith in
        let z : xs ≡ [] = no_rise (rw e at r) in
        let c = cut_all q in
        rw (z, none_written (suc n) v, e, c.0, c.1, none_written n (w + 1)) (append-nil (window_of w ys))

pub bitmap_last : (w : ℕ) {xs ys : List ℕ} → RisesIn 0 (256 * w) xs → RisesIn (256 * w) (256 * w + 256) ys → w ≤ 255
    → bitmap_of (xs ++ ys) ≡ bitmap_of xs ++ window_of w ys
bitmap_last w r q h = windows_last 256 0 w r q (omega arith) (omega arith)

-- ---- what is written so far

-- the bitmap of the first i types is not written yet, and ends at the index `end`
pub record Backward (types before : List ℕ) (size : ℕ) (after : List ℕ) (i end : ℕ) : Type 0 where
  pub within : i ≤ length types
  pub rest : List ℕ
  pub joins : bitmap_of (take i types) ++ rest ≡ bitmap_of types
  pub count : end ≡ length (bitmap_of (take i types))
  pub written : Written before end end rest size size after

pub backward_none : (types d : List ℕ) (size : ℕ) → size ≡ length (bitmap_of types) → size ≤ length d
    → Backward types d size d (length types) size
backward_none types d size e room =
    record {
      within = omega arith;
      rest = [];
      joins = rw (take-length types) (append-nil (bitmap_of types));
      count = rw (take-length types) e;
      written = written_none d (omega arith) (omega arith) room;
    }

pub backward_all : {types d : List ℕ} {size : ℕ} {e : List ℕ} {i end : ℕ} → Backward types d size e i end → i ≤ 0
    → e ≡ overlay (bitmap_of types) d
backward_all {types} {d} {size} {e} {i} {end} b h =
    let z : i ≡ 0 = omega arith in
    let none_left : bitmap_of (take i types) ≡ [] = rw z (none_written 256 0) in
    let at : end ≡ 0 = omega (arith, b.count, ap length none_left) in
    let all : b.rest ≡ bitmap_of types = ap (λ (s : List ℕ). s ++ b.rest) (sym none_left) ∙ b.joins in
    rw all at (written_front (rw at at b.written) (omega arith))

module _ {types d : List ℕ} {size : ℕ} {e : List ℕ} {i end : ℕ} (is_set : IsSet types) (b : Backward types d size e i end) (more : 0 < i)
  where
    abbrev last : ℕ
    last = last_type types i

    abbrev w : ℕ
    w = last / 256

    abbrev n : ℕ
    n = octet_count last

    abbrev start : ℕ
    start = end - n

    last_is : Last (take i types) last
    last_is = last_taken types i more b.within

    rise : RisesIn 0 (last + 1) (take i types) × RisesIn (last + 1) 65536 (drop i types) × (last < 65536)
    rise = rises_parts {ys = drop i types} (rw (take-append-drop i types) is_set) last_is

    -- where the types are cut before the last window
    parted : (xs ys : List ℕ) → xs ++ ys ≡ take i types → RisesIn 0 (256 * w) xs → RisesIn (256 * w) (last + 1) ys → Last ys last
        → bitmap_of (take i types) ≡ bitmap_of xs ++ w ∷ n ∷ octets_of n (256 * w) ys
    parted xs ys e r q l =
        rw (← e)
        (bitmap_last w r (rises_wider q (omega arith) (omega arith)) (omega (arith, rise.2))
        ∙ ap (λ (s : List ℕ). bitmap_of xs ++ s) (window_is w l))

    -- the last window has its octets before the index `end`
    pub backward_room : n + 2 ≤ end
    backward_room =
        let xs : List ℕ = below (256 * w) (take i types) in
        let ys : List ℕ = from (256 * w) (take i types) in
        let p = parted xs ys (below_from (256 * w) (take i types)) (below_rises (256 * w) rise.0) (from_rises (256 * w) rise.0)
        (last_from (256 * w) last_is (omega arith)) in
        omega (arith, b.count, ap length p, length-append (bitmap_of xs) (w ∷ n ∷ octets_of n (256 * w) ys), octets_length n (256 * w) ys)

    module _ {zeroed : List ℕ} (fills : zeroed ≡ put e start (replicate n 0)) where
      zeros : Written e start start (replicate n 0) (start + n) (start + n) zeroed
      zeros =
          put_written e start (replicate n 0) fills (ap (λ (k : ℕ). start + k) (length-replicate n 0))
          (omega (arith, backward_room, b.written.size, b.written.room, b.written.within))

      pub backward_marking : Marking types i w zeroed start
      backward_marking = record {
        some = more;
        within = b.within;
        number = refl;
        rise = rise.0;
        zeros = written_there zeros;
      }

      module _ {r : ℕ} {f : List ℕ} (m : Marks types i w zeroed start r f) where
        abbrev ys : List ℕ
        ys = drop r (take i types)

        whole : take r types ++ ys ≡ take i types
        whole = rw (← (take-take r i types (omega (arith, m.less)))) (take-append-drop r (take i types))

        bitmap_is : bitmap_of (take i types) ≡ bitmap_of (take r types) ++ w ∷ n ∷ octets_of n (256 * w) ys
        bitmap_is =
            let c : from (256 * w) (take i types) ≡ ys = ap (from (256 * w)) (sym whole) ∙ (cut_append m.lower m.here).1 in
            parted (take r types) ys whole m.lower m.here (rw c at (last_from (256 * w) last_is (omega arith)))

        pub backward_index : start < length f
        backward_index =
            omega (arith, backward_room, m.written.size, zeros.size, b.written.size, b.written.room, b.written.within)

        pub backward_more : Backward types d size (set (set f (start - 1) n) (start - 2) w) r (start - 2)
        backward_more =
            let octets : List ℕ = octets_of n (256 * w) ys in
            let k = backward_room in
            let in-space = backward_index in
            let same : start + n ≡ end = omega arith in
            let window-octets : Written e start start octets end end f =
            rw same at (written_over zeros m.written (omega arith) (omega arith)) in
            let behind : Written d start start (octets ++ b.rest) size size f = written_before b.written window-octets (omega arith) in
            let with-count : Written d (start - 1) (start - 1) (n ∷ octets ++ b.rest) size size (set f (start - 1) n) =
            written_before behind (written_octet f (start - 1) n (omega arith) (omega arith)) (omega arith) in
            let size-kept = length-set f (start - 1) n in
            record {
              within = omega (arith, m.less, b.within);
              rest = w ∷ n ∷ octets ++ b.rest;
              joins =
                  sym (append_assoc (bitmap_of (take r types)) (w ∷ n ∷ octets) b.rest)
                  ∙ ap (λ (s : List ℕ). s ++ b.rest) (sym bitmap_is) ∙ b.joins;
              count =
                  omega (
                    arith,
                    b.count,
                    ap length bitmap_is,
                    length-append (bitmap_of (take r types)) (w ∷ n ∷ octets),
                    octets_length n (256 * w) ys,
                  );
              written =
                  written_before with-count (written_octet (set f (start - 1) n) (start - 2) w (omega arith) (omega arith)) (omega arith);
            }
