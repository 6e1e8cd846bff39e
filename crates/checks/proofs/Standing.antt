-- The octet o where a walk stands, which is 256 past the end: up to 63 it stands in the name (`stands_within`, `stands_same`), above that
-- the octets are no name (`walking_large`), and the next one is read from the part of the name behind this one (`stands_next`).
use mathlib.Core.Path.{◌≡◌, refl, sym, ◌∙◌}
use mathlib.Core.List.{List, [], ◌∷◌}
use mathlib.Core.Bool.{Bool, true, false}
use Prim.Native.Nat.{ℕ, zero, suc, ◌+◌, ◌-◌, ◌≤◌, ◌<◌}
use native.Mathlib.Omega.{arith}
use borrow.Author.Tests.{ltb-true, ltb-false}
use lib.Dec.{ltb}
use lib.ListN.{length, take, drop, get_or, get_or-eq_default}
use lib.Seq.{get_or-take, get_or-drop}
use Rattle.checks.specs.declared.Depth.{Depth}
use Rattle.checks.specs.Private.Depths.{labels}
use Rattle.checks.specs.Private.Walks.{Walks, place_for}
use Rattle.checks.proofs.Marks.{Walking, walks_none, read_next, walking_left_over, walking_bad_length, walking_none, walking_last}
use Rattle.checks.proofs.Marks.{walking_short}

pub record Stands (s : List ℕ) (p o : ℕ) : Type 0 where
  pub octet : o ≡ get_or s p 256

pub within_same : (s : List ℕ) (p : ℕ) → p < length s → get_or s p 0 ≡ get_or s p 256
within_same [] p h = absurd (omega arith)
within_same (x ∷ s) zero h = refl
within_same (x ∷ s) (suc p) h = within_same s p (omega arith)

module _ {s : List ℕ} {p o : ℕ} (t : Stands s p o) (small : o ≤ 63) where
  pub stands_within : p < length s
  stands_within = go (ltb p (length s)) refl
    where
      go : (b : Bool) → ltb p (length s) ≡ b → p < length s
      go true e = ltb-true p (length s) e
      go false e = absurd (omega (arith, get_or-eq_default s 256 (ltb-false p (length s) e)))

  pub stands_same : get_or s p 0 ≡ o
  stands_same = within_same s p stands_within ∙ sym t.octet

pub stands_next : (s : List ℕ) (q o : ℕ) → q + o < length s → Stands s (q + o) (get_or (take (length s - q) (drop q s)) o 0)
stands_next s q o h =
    record { octet = get_or-take (length s - q) (drop q s) o 0 (omega arith) ∙ get_or-drop q s o 0 ∙ within_same s (q + o) h }

module _ {s : List ℕ} {cut p one two three end o : ℕ} (w : Walking s cut p one two three end) (t : Stands s p o) where
  pub walking_large : {depth : ℕ} → 63 < o → Walks s cut depth 255
  walking_large h = go (ltb p (length s)) refl
    where
      go : {depth : ℕ} (b : Bool) → ltb p (length s) ≡ b → Walks s cut depth 255
      go true e =
          let i : p < length s = ltb-true p (length s) e in
          walking_bad_length w i (omega (arith, within_same s p i))
      go false e = walking_short w (ltb-false p (length s) e)

  -- the label runs past the last octet
  pub walking_past : {depth : ℕ} → length s ≤ 255 → 0 < o → o ≤ 63 → length s ≤ p + 1 + o → Walks s cut depth 255
  walking_past fits some small h =
      let e : get_or s p 0 ≡ o = stands_same t small in
      let next = read_next s p w.reads (stands_within t small) fits (λ z. omega arith) (omega arith) in
      walks_none (λ b. next.1 (omega arith) b.whole)

  -- ---- the name ends at the place p

  module _ (z : o ≤ 0) where
    zero_there : get_or s p 0 ≡ 0
    zero_there = omega (arith, stands_same t (omega arith))

    inside : p < length s
    inside = stands_within t (omega arith)

    pub ended_left_over : {depth : ℕ} → p + 1 < length s → Walks s cut depth 255
    ended_left_over h = walking_left_over w inside zero_there h

    pub ended_none : {depth : ℕ} → (end ≡ cut → ⊥) → Walks s cut depth 255
    ended_none f = walking_none w inside zero_there f

    pub ended_last : length s ≤ 255 → length s ≤ p + 1 → end ≡ cut → (depth : Depth)
        → Walks s cut (labels depth) (place_for depth one two three)
    ended_last fits h e depth = walking_last w inside fits zero_there h e depth
