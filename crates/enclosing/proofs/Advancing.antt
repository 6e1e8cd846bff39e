-- Going along the labels of a name: a label leads to the next place (`step`), and there is none between them, so that the first one with
-- few enough octets behind it is found (`Going`), or noted while the name is read (`Passing`).
use mathlib.Core.Path.{◌≡◌, refl, sym, ap, ◌∙◌}
use mathlib.Core.List.{List}
use Prim.Native.Nat.{ℕ, suc, ◌+◌, ◌-◌, ◌≤◌, ◌<◌}
use native.Mathlib.Omega.{arith}
use native.Mathlib.Decide.{dec_le}
use lib.ListN.{length, drop, get_or, length-drop}
use Rattle.facts.proofs.Lists.{length_none}
use Rattle.std.specs.Prelude.{Some, None, Ok, Option}
use Rattle.name.specs.Wire.{reading_of}
use Rattle.name.specs.Labels.{wire, labels_of}
use Rattle.name.specs.Private.Standing.{Standing}
use Rattle.name.proofs.LabelSteps.{at_root}
use Rattle.checks.specs.Private.Boundary.{before, Boundary}
use Rattle.checks.specs.Private.Climbs.{past}
use Rattle.checks.proofs.Climbing.{boundary_climbs}
use Rattle.checks.proofs.LabelPlaces.{place_of, place_mono, place_on, boundary_place}
use Rattle.checks.proofs.LastAbove.{place_boundary}
use Rattle.enclosing.specs.declared.forks.Reached.{Reached}
use Rattle.enclosing.specs.Private.Forks.{Stands, Advances, Nears, Scans}

pub boundary_stands : {s : List ℕ} {p : ℕ} → Boundary s p → Standing s p 0
boundary_stands {s} b = (boundary_climbs b (length s) (omega arith)).ends

pub record Step (s : List ℕ) (p : ℕ) : Type 0 where
  pub next : Boundary s (past s p)
  pub none_between : (x : ℕ) → Boundary s x → p < x → past s p ≤ x

module _ {s : List ℕ} {p : ℕ} (b : Boundary s p) where
  -- the zero octet is the last one
  pub root_last : get_or s p 0 ≡ 0 → length s ≤ p + 1
  root_last z =
      let st : Standing s p 0 = boundary_stands b in
      let e : labels_of (drop p s) ≡ _ = length_none (labels_of (drop p s)) (omega (arith, at_root st z)) in
      omega (arith, ap length (sym st.back ∙ ap wire e), length-drop p s)

  pub step : (get_or s p 0 ≡ 0 → ⊥) → Step s p
  step f =
      let ls : List (List ℕ) = labels_of s in
      let i : ℕ = before s p in
      let at : place_of ls i ≡ p = boundary_place b in
      let o = place_on s b.whole i p at f in
      record {
        next = rw o.1 at (place_boundary s b.whole (suc i) o.0);
        none_between = λ x bx k. omega (arith, o.1, boundary_place bx, place_mono ls (suc i) (before s x) (later x bx k));
      }
    where
      later : (x : ℕ) → Boundary s x → p < x → before s p < before s x
      later x bx k = go (dec_le (before s x) (before s p))
        where
          go : Dec (before s x ≤ before s p) → before s p < before s x
          go (no f) = omega arith
          go (yes g) =
              absurd
              (omega (arith, boundary_place b, boundary_place bx, place_mono (labels_of s) (before s x) (before s p) g))

-- ---- to the first place with few enough octets behind it

-- it is at p, or further on
pub record Going (s : List ℕ) (at most label p : ℕ) : Type 0 where
  pub stands : Stands s label p
  pub first : (x : ℕ) → Boundary s x → at ≤ x → length s ≤ most + x → p ≤ x

pub going_start : {s : List ℕ} {label at : ℕ} → Stands s label at → (most : ℕ) → Going s at most label at
going_start st most = record { stands = st; first = λ x b h k. h }

module _ {s : List ℕ} {at most label p : ℕ} (g : Going s at most label p) where
  pub going_inside : p < length s
  going_inside = g.stands.here.within

  module _ (some : 1 ≤ most) (far : most < length s - p) where
    going_step : Step s p
    going_step = step g.stands.here (λ z. omega (arith, root_last g.stands.here z))

    pub going_within : past s p < length s
    going_within = going_step.next.within

    pub going_next : Going s at most p (past s p)
    going_next =
        record {
          stands = record { here = going_step.next; behind = λ h. (g.stands.here, refl) };
          first = λ x b h k. going_step.none_between x b (omega (arith, g.first x b h k));
        }

  pub going_end : length s - p ≤ most → Advances s at most (record { label = label; at = p })
  going_end close = record { stands = g.stands; close = omega arith; first = g.first }

-- ---- while the name is read

-- reading has come to p, and the place that is noted is not behind the first one with few enough octets behind it
pub record Passing (s : List ℕ) (most label at p : ℕ) : Type 0 where
  pub here : Boundary s p
  pub nears : Nears s most (record { label = label; at = at })

pub passing_start : {s : List ℕ} (most : ℕ) → reading_of s ≡ Ok tt → Passing s most 0 0 0
passing_start {s} most e =
    let b : Boundary s 0 = place_boundary s e 0 (omega arith) in
    record {
      here = b;
      nears = record { stands = record { here = b; behind = λ h. absurd (h refl) }; first = λ x d h. omega arith };
    }

module _ {s : List ℕ} {most label at p : ℕ} (some : get_or s p 0 ≡ 0 → ⊥) (g : Passing s most label at p) where
  -- p is not near enough, so the next place is noted
  pub passing_far : most < length s - p → Passing s most p (past s p) (past s p)
  passing_far far =
      let n : Step s p = step g.here some in
      record {
        here = n.next;
        nears = record {
          stands = record { here = n.next; behind = λ h. (g.here, refl) };
          first = λ x b h. n.none_between x b (omega arith);
        };
      }

  pub passing_near : Passing s most label at (past s p)
  passing_near = record { here = (step g.here some).next; nears = g.nears }

-- what a walk over octets tells of them
module _ (s : List ℕ) (most : ℕ) (r : Option Reached) (found : Scans s most r) where
  pub scans_found : {p : Reached} → r ≡ Some p → Nears s most p
  scans_found e = rw e at found

  pub scans_none : r ≡ None → reading_of s ≡ Ok tt → ⊥
  scans_none e = rw e at found

-- what is near with more octets behind it is near with fewer
pub nears_fewer : {s : List ℕ} {most fewer : ℕ} {r : Reached} → Nears s most r → fewer ≤ most → Nears s fewer r
nears_fewer g h = record { stands = g.stands; first = λ x b k. g.first x b (omega arith) }
