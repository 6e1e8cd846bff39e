-- The walk over a name: reading goes on at the place p (`ReadTo`), and the last three labels that end at or before the cut begin at the
-- places noted (`Marked`). Where the name ends, they are the last labels before the cut if the last one ends there, and no label begins
-- at the cut if not (`marked_last`, `marked_none`).
use mathlib.Core.Path.{◌≡◌, refl, sym, ap, ◌∙◌}
use mathlib.Core.List.{List}
use mathlib.Core.Bool.{Bool, true, false}
use Prim.Native.Nat.{ℕ, suc, ◌+◌, ◌-◌, ◌≤◌, ◌<◌}
use native.Mathlib.Omega.{arith}
use borrow.Author.Tests.{ltb-true, ltb-false}
use lib.Dec.{ltb}
use lib.ListN.{length, get_or}
use Rattle.std.specs.Prelude.{Ok}
use Rattle.name.specs.Wire.{reading_of}
use Rattle.name.specs.Labels.{labels_of}
use Rattle.name.proofs.Labels.{at_most_127_labels}
use Rattle.name.proofs.ReadSteps.{At, at_start, left_over, whole, bad_length, too_long, at_next}
use Rattle.name.proofs.Whole.{broken}
use Rattle.checks.specs.declared.Depth.{Depth}
use Rattle.checks.specs.declared.Depth.TheVariants.{All, One, Two, Three, Other}
use Rattle.checks.specs.Private.Depths.{labels}
use Rattle.checks.specs.Private.Boundary.{before, Boundary}
use Rattle.checks.specs.Private.LastAbove.{LastAbove}
use Rattle.checks.specs.Private.Walks.{Walks, place_for}
use Rattle.checks.proofs.LabelPlaces.{place_of, place_mono, place_end, place_on, boundary_place}
use Rattle.checks.proofs.LastAbove.{place_boundary, place_last}

-- ---- reading on, in octets that are at most 255

-- reading has come to the place p of a length octet; past the end, the octets are no whole name
abbrev pub ReadTo : List ℕ → ℕ → Type 0
ReadTo s p = (p < length s → At s p) × (length s ≤ p → reading_of s ≡ Ok tt → ⊥)

pub read_start : (s : List ℕ) → ReadTo s 0
read_start s = (λ h. at_start s, λ h e. broken (sym ((at_start s).1 h) ∙ e))

module _ (s : List ℕ) (p : ℕ) (r : ReadTo s p) (h : p < length s) where
  pub read_left_over : get_or s p 0 ≡ 0 → p + 1 < length s → reading_of s ≡ Ok tt → ⊥
  read_left_over z g e = broken (left_over s p (r.0 h) h z g ∙ e)

  pub read_bad_length : 63 < get_or s p 0 → reading_of s ≡ Ok tt → ⊥
  read_bad_length g e = broken (bad_length s p (r.0 h) h g ∙ e)

  pub read_next : length s ≤ 255 → (get_or s p 0 ≡ 0 → ⊥) → get_or s p 0 ≤ 63 → ReadTo s (p + 1 + get_or s p 0)
  read_next fits some small = (λ g. at_next s p (r.0 h) h some small (omega arith), λ g e. past g e (ltb 254 next) refl)
    where
      next : ℕ
      next = p + 1 + get_or s p 0

      past : length s ≤ next → reading_of s ≡ Ok tt → (b : Bool) → ltb 254 next ≡ b → ⊥
      past g e true t = broken (too_long s p (r.0 h) h some small (ltb-true 254 next t) ∙ e)
      past g e false t = broken (sym ((at_next s p (r.0 h) h some small (ltb-false 254 next t)).1 g) ∙ e)

-- ---- the places noted

-- past the first `passed` labels the walk stands at the place p; the first `noted` of them end at or before the cut, the last at the
-- place end
pub record Marked (s : List ℕ) (cut p one two three end : ℕ) : Type 0 where
  pub passed : ℕ
  pub noted : ℕ
  pub at : place_of (labels_of s) passed ≡ p
  pub few : passed ≤ length (labels_of s)
  pub within : noted ≤ passed
  pub ends : place_of (labels_of s) noted ≡ end
  pub first : place_of (labels_of s) (noted - 1) ≡ one
  pub second : place_of (labels_of s) (noted - 2) ≡ two
  pub third : place_of (labels_of s) (noted - 3) ≡ three
  pub low : end ≤ cut
  pub near : p ≤ cut → noted ≡ passed
  pub far : cut < p → cut < place_of (labels_of s) (suc noted)

pub marked_start : (s : List ℕ) (cut : ℕ) → Marked s cut 0 0 0 0 0
marked_start s cut =
    record {
      passed = 0;
      noted = 0;
      at = refl;
      few = omega arith;
      within = omega arith;
      ends = refl;
      first = refl;
      second = refl;
      third = refl;
      low = omega arith;
      near = λ h. refl;
      far = λ h. absurd (omega arith);
    }

module _ {s : List ℕ} {cut p one two three end : ℕ} (m : Marked s cut p one two three end) (whole : reading_of s ≡ Ok tt) where
  module _ (some : get_or s p 0 ≡ 0 → ⊥) where
    on : (m.passed < length (labels_of s)) × (place_of (labels_of s) (suc m.passed) ≡ p + 1 + get_or s p 0)
    on = place_on s whole m.passed p m.at some

    -- the label ends at or before the cut
    pub marked_more : p + 1 + get_or s p 0 ≤ cut → Marked s cut (p + 1 + get_or s p 0) p one two (p + 1 + get_or s p 0)
    marked_more h =
        let n : m.noted ≡ m.passed = m.near (omega arith) in
        let place = place_of (labels_of s) in
        let shift : (i j : ℕ) → i ≡ j → place i ≡ place j = λ i j e. ap place e in
        record {
          passed = suc m.passed;
          noted = suc m.passed;
          at = on.1;
          few = omega (arith, on.0);
          within = omega arith;
          ends = on.1;
          first = shift (suc m.passed - 1) m.passed (omega arith) ∙ m.at;
          second = shift (suc m.passed - 2) (m.noted - 1) (omega arith) ∙ m.first;
          third = shift (suc m.passed - 3) (m.noted - 2) (omega arith) ∙ m.second;
          low = h;
          near = λ g. refl;
          far = λ g. absurd (omega arith);
        }

    -- the label ends past the cut
    pub marked_no_more : cut < p + 1 + get_or s p 0 → Marked s cut (p + 1 + get_or s p 0) one two three end
    marked_no_more h =
        record {
          passed = suc m.passed;
          noted = m.noted;
          at = on.1;
          few = omega (arith, on.0);
          within = omega (arith, m.within);
          ends = m.ends;
          first = m.first;
          second = m.second;
          third = m.third;
          low = m.low;
          near = λ g. absurd (omega arith);
          far = λ g. past (ltb cut p) refl;
        }
      where
        past : (b : Bool) → ltb cut p ≡ b → cut < place_of (labels_of s) (suc m.noted)
        past true e = m.far (ltb-true cut p e)
        past false e =
            let n : m.noted ≡ m.passed = m.near (ltb-false cut p e) in
            omega (arith, ap (λ (i : ℕ). place_of (labels_of s) (suc i)) n, on.1)

  -- ---- the name ends at the place p

  module _ (z : get_or s p 0 ≡ 0) where
    all : length (labels_of s) ≤ m.passed
    all = place_end s whole m.passed p m.at z

    pub marked_none : (end ≡ cut → ⊥) → Boundary s cut → ⊥
    marked_none f b = go (ltb cut p) refl (ltb m.noted (before s cut)) refl
      where
        place : place_of (labels_of s) (before s cut) ≡ cut
        place = boundary_place b

        go : (t : Bool) → ltb cut p ≡ t → (u : Bool) → ltb m.noted (before s cut) ≡ u → ⊥
        go t et false eu =
            f
            (omega
            (arith, place_mono (labels_of s) (before s cut) m.noted (ltb-false m.noted (before s cut) eu), place, m.ends, m.low))
        go true et true eu =
            omega (
              arith,
              place_mono (labels_of s) (suc m.noted) (before s cut) (ltb-true m.noted (before s cut) eu),
              place,
              m.far (ltb-true cut p et),
            )
        go false et true eu =
            omega (arith, m.near (ltb-false cut p et), all, ltb-true m.noted (before s cut) eu)

  noted_last : (depth : Depth) → place_of (labels_of s) (m.noted - labels depth) ≡ place_for depth one two three
  noted_last All =
      let none : m.noted - 127 ≡ 0 = omega (arith, at_most_127_labels s whole, m.within, m.few) in ap (place_of (labels_of s)) none
  noted_last One = m.first
  noted_last Two = m.second
  noted_last Three = m.third
  noted_last Other = m.first

  pub marked_last : end ≡ cut → length s ≤ 255 → (depth : Depth) → Walks s cut (labels depth) (place_for depth one two three)
  marked_last e fits depth =
      let ec : place_of (labels_of s) m.noted ≡ cut = m.ends ∙ e in
      let small : m.noted ≤ length (labels_of s) = omega (arith, m.within, m.few) in
      let b : Boundary s cut = rw ec at (place_boundary s whole m.noted small) in
      let l : LastAbove s cut (labels depth) (place_for depth one two three) =
      rw (ec, noted_last depth) at (place_last s whole m.noted small (labels depth)) in
      let n : place_for depth one two three ≤ cut =
      rw (noted_last depth, ec) at (place_mono (labels_of s) (m.noted - labels depth) m.noted (omega arith)) in
      record {
        most = omega (arith, b.within);
        begins = λ h. b;
        last = λ h. l;
        none = λ h. absurd (omega (arith, b.within));
      }

pub walks_none : {s : List ℕ} {cut depth : ℕ} → (Boundary s cut → ⊥) → Walks s cut depth 255
walks_none f =
    record {
      most = omega arith;
      begins = λ h. absurd (omega arith);
      last = λ h. absurd (omega arith);
      none = λ h. f;
    }

-- ---- both, as the walk goes

pub record Walking (s : List ℕ) (cut p one two three end : ℕ) : Type 0 where
  pub reads : ReadTo s p
  pub marks : reading_of s ≡ Ok tt → Marked s cut p one two three end

pub walking_start : (s : List ℕ) (cut : ℕ) → Walking s cut 0 0 0 0 0
walking_start s cut = record { reads = read_start s; marks = λ e. marked_start s cut }

module _ {s : List ℕ} {cut p one two three end : ℕ} (w : Walking s cut p one two three end) where
  pub walking_short : {depth : ℕ} → length s ≤ p → Walks s cut depth 255
  walking_short h = walks_none (λ b. w.reads.1 h b.whole)

  module _ (h : p < length s) where
    pub walking_left_over : {depth : ℕ} → get_or s p 0 ≡ 0 → p + 1 < length s → Walks s cut depth 255
    walking_left_over z g = walks_none (λ b. read_left_over s p w.reads h z g b.whole)

    pub walking_bad_length : {depth : ℕ} → 63 < get_or s p 0 → Walks s cut depth 255
    walking_bad_length g = walks_none (λ b. read_bad_length s p w.reads h g b.whole)

    pub walking_none : {depth : ℕ} → get_or s p 0 ≡ 0 → (end ≡ cut → ⊥) → Walks s cut depth 255
    walking_none z f = walks_none (λ b. marked_none (w.marks b.whole) b.whole z f b)

    module _ (fits : length s ≤ 255) where
      pub walking_last : get_or s p 0 ≡ 0 → length s ≤ p + 1 → end ≡ cut → (depth : Depth)
          → Walks s cut (labels depth) (place_for depth one two three)
      walking_last z g e depth =
          let a : reading_of s ≡ (Ok tt) = sym (whole s p (w.reads.0 h) h z g) in
          marked_last (w.marks a) a e fits depth

      module _ (some : get_or s p 0 ≡ 0 → ⊥) (small : get_or s p 0 ≤ 63) where
        pub walking_more : p + 1 + get_or s p 0 ≤ cut → Walking s cut (p + 1 + get_or s p 0) p one two (p + 1 + get_or s p 0)
        walking_more g =
            record { reads = read_next s p w.reads h fits some small; marks = λ e. marked_more (w.marks e) e some g }

        pub walking_no_more : cut < p + 1 + get_or s p 0 → Walking s cut (p + 1 + get_or s p 0) one two three end
        walking_no_more g =
            record { reads = read_next s p w.reads h fits some small; marks = λ e. marked_no_more (w.marks e) e some g }

-- ---- the walk that notes the last place alone

pub record WalkingLast (s : List ℕ) (cut p one end : ℕ) : Type 0 where
  pub two : ℕ
  pub three : ℕ
  pub walks : Walking s cut p one two three end

pub last_start : (s : List ℕ) (cut : ℕ) → WalkingLast s cut 0 0 0
last_start s cut = record { two = 0; three = 0; walks = walking_start s cut }

module _ {s : List ℕ} {cut p one end : ℕ} (w : WalkingLast s cut p one end) (h : p < length s) (fits : length s ≤ 255)
    (some : get_or s p 0 ≡ 0 → ⊥) (small : get_or s p 0 ≤ 63) where
  pub last_more : p + 1 + get_or s p 0 ≤ cut → WalkingLast s cut (p + 1 + get_or s p 0) p (p + 1 + get_or s p 0)
  last_more g = record { two = one; three = w.two; walks = walking_more w.walks h fits some small g }

  pub last_no_more : cut < p + 1 + get_or s p 0 → WalkingLast s cut (p + 1 + get_or s p 0) one end
  last_no_more g = record { two = w.two; three = w.three; walks = walking_no_more w.walks h fits some small g }

-- a label begins at the cut, and there are at most 127 before it: all of them begin at the front
pub walks_all : {s : List ℕ} {cut r : ℕ} → Walks s cut 1 r → r < 255 → Walks s cut 127 0
walks_all {s} {cut} w h =
    let b : Boundary s cut = w.begins h in
    let few : before s cut ≤ length (labels_of s) = omega arith in
    let none : before s cut - 127 ≡ 0 = omega (arith, at_most_127_labels s b.whole) in
    let l : LastAbove s cut 127 0 = rw (none, boundary_place b) at (place_last s b.whole (before s cut) few 127) in
    record { most = omega arith; begins = λ g. b; last = λ g. l; none = λ g. absurd (omega arith) }

-- where no label begins at the cut, none does for any number of labels
pub walks_nowhere : {s : List ℕ} {cut depth other r : ℕ} → Walks s cut depth r → r ≡ 255 → Walks s cut other r
walks_nowhere w e = record { most = w.most; begins = w.begins; last = λ h. absurd (omega arith); none = w.none }
