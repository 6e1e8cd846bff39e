-- Measuring a name label by label: what reading has found so far and, if it finds the octets whole, how many length octets passed are 1.
use mathlib.Core.Path.{◌≡◌, refl, sym, ap}
use mathlib.Core.List.{List, [], ◌∷◌, map}
use Prim.Native.Nat.{ℕ, zero, suc, ◌+◌, ◌≤◌, ◌<◌}
use native.Mathlib.Omega.{arith}
use lib.ListN.{length, drop, get_or}
use Rattle.name.specs.declared.Fault.{Fault}
use Rattle.std.specs.Prelude.{Ok, Err}
use Rattle.name.specs.Wire.{reading_of}
use Rattle.name.specs.Labels.{labels_of}
use Rattle.name.specs.Private.Standing.{Standing}
use Rattle.name.proofs.ReadSteps.{At, at_start, whole, at_next}
use Rattle.name.proofs.LabelSteps.{Here, here, counted, stands, at_root, not_root}
use Rattle.key.specs.Small.{small_octet, small_in}
use Rattle.tokey.specs.Private.Measured.{measured_of}

-- ---- the length octets that are 1

-- n of those before the place p are
pub record Singles (s : List ℕ) (n p : ℕ) : Type 0 where
  pub standing : Standing s p 0
  pub sum : n + small_in (map length (labels_of (drop p s))) ≡ small_in (map length (labels_of s))

module _ {s : List ℕ} {n p : ℕ} (c : Singles s n p) where
  singles_all : get_or s p 0 ≡ 0 → n ≡ small_in (map length (labels_of s))
  singles_all z = go (labels_of (drop p s)) c.sum (at_root c.standing z)
    where
      go : (ls : List (List ℕ)) → n + small_in (map length ls) ≡ small_in (map length (labels_of s)) → length ls ≡ 0
          → n ≡ small_in (map length (labels_of s))
      go [] e h = omega arith
      go (l ∷ ls) e h = absurd (omega arith)

  singles_here : (get_or s p 0 ≡ 0 → ⊥) → Here s p 1
  singles_here some = here s p 1 (counted c.standing 1 (not_root c.standing some)) (omega arith)

  singles_step : (get_or s p 0 ≡ 0 → ⊥) → (k : ℕ) → k ≡ n + small_octet (get_or s p 0) → Singles s k (p + 1 + get_or s p 0)
  singles_step some k e =
      let h : Here s p 1 = singles_here some in
      let t : small_in (map length (labels_of (drop p s))) ≡ small_octet (get_or s p 0) + small_in (map length h.rest) =
      rw (h.is, h.octet) in
      record {
        standing = rw h.octet (counted h.next 0 (omega arith));
        sum = rw (h.octet, h.after) (omega (arith, c.sum, t, e));
      }

-- ---- reading

pub record Measuring (s : List ℕ) (n p : ℕ) : Type 0 where
  pub small : p ≤ 254
  pub at : At s p
  pub few : n ≤ p
  pub singles : reading_of s ≡ Ok tt → Singles s n p

pub measuring_none : (s : List ℕ) → Measuring s 0 0
measuring_none s =
    record {
      small = omega arith;
      at = at_start s;
      few = omega arith;
      singles = λ e. record { standing = stands s e; sum = omega arith };
    }

pub measured_broken : (s : List ℕ) (n : ℕ) (f : Fault) → Err f ≡ reading_of s → Err f ≡ measured_of (reading_of s) n
measured_broken s n f e = rw (← e)

module _ {s : List ℕ} {n p : ℕ} (m : Measuring s n p) (h : p < length s) where
  pub measured_whole : get_or s p 0 ≡ 0 → length s ≤ p + 1
      → Ok n ≡ measured_of (reading_of s) (small_in (map length (labels_of s)))
  measured_whole z end =
      let e : (Ok tt) ≡ reading_of s = whole s p m.at h z end in
      rw (← e) (ap Ok (singles_all (m.singles (sym e)) z))

  module _ (some : get_or s p 0 ≡ 0 → ⊥) (size : get_or s p 0 ≤ 63) (fits : p + 1 + get_or s p 0 ≤ 254) where
    measuring_step : (k : ℕ) → k ≡ n + small_octet (get_or s p 0) → k ≤ p + 1 → Measuring s k (p + 1 + get_or s p 0)
    measuring_step k e few =
        record {
          small = fits;
          at = at_next s p m.at h some size fits;
          few = omega arith;
          singles = λ w. singles_step (m.singles w) some k e;
        }

    pub measuring_one : get_or s p 0 ≡ 1 → Measuring s (n + 1) (p + 1 + get_or s p 0)
    measuring_one e = measuring_step (n + 1) (omega (arith, ap small_octet e)) (omega (arith, m.few))

    pub measuring_more : (get_or s p 0 ≡ 1 → ⊥) → Measuring s n (p + 1 + get_or s p 0)
    measuring_more f = measuring_step n (omega (arith, other (get_or s p 0) some f)) (omega (arith, m.few))
      where
        other : (o : ℕ) → (o ≡ 0 → ⊥) → (o ≡ 1 → ⊥) → small_octet o ≡ 0
        other zero g f = absurd (g refl)
        other (suc zero) g f = absurd (f refl)
        other (suc (suc o)) g f = refl
