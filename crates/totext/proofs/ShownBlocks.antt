-- Characters tested in blocks: a block may begin among those that are tested already (`each_block`); a character is a block too.
use mathlib.Core.Path.{◌≡◌, refl, sym, ◌∙◌}
use mathlib.Core.List.{List}
use mathlib.Core.Bool.{Bool, true, false, ◌&&◌}
use Prim.Native.Nat.{ℕ, ◌+◌, ◌-◌, ◌≤◌, ◌<◌}
use native.Mathlib.Omega.{arith}
use borrow.Author.Tests.{ltb-true, ltb-false}
use lib.Dec.{ltb}
use lib.ListN.{get_or}
use Rattle.facts.proofs.Booleans.{both_true}
use Rattle.totext.specs.Private.Shown.{shown, undotted, Each}

module _ (s t : List ℕ) (p : ℕ) where
  each_character : {b : Bool} → b ≡ shown (get_or s p 0) && undotted (get_or t (p + 1) 0) → Each s t p 1 b
  each_character {b} is = record { pass = λ e k h. let z : p + k ≡ p = omega arith in rw z (sym is ∙ e) }

module _ {s t : List ℕ} {p i : ℕ} {a : Bool} (c : Each s t p i a) where
  -- w characters from the index q on are tested too
  pub each_block : {q w : ℕ} {b : Bool} → Each s t q w b → {m : ℕ} → (p ≤ q) × (q ≤ p + i) × (p + m ≤ q + w) → Each s t p m (a && b)
  each_block {q} {w} {b} d {m} fits = record { pass = λ e k h. go e k h (ltb k i) refl }
    where
      go : a && b ≡ true → (k : ℕ) → k < m → (u : Bool) → ltb k i ≡ u
          → shown (get_or s (p + k) 0) && undotted (get_or t (p + k + 1) 0) ≡ true
      go e k h true u = c.pass (both_true a b e).0 k (ltb-true k i u)
      go e k h false u =
          let past : i ≤ k = ltb-false k i u in
          let place : q + (p + k - q) ≡ p + k = omega arith in
          rw place at (d.pass (both_true a b e).1 (p + k - q) (omega arith))

  -- the character behind them is tested too
  pub each_more : {b : Bool} → b ≡ shown (get_or s (p + i) 0) && undotted (get_or t (p + i + 1) 0) → Each s t p (i + 1) (a && b)
  each_more is = each_block (each_character s t (p + i) is) (omega arith)

pub each_front : {s t : List ℕ} {n : ℕ} → Each s t 0 n true → (i : ℕ) → i < n
    → (shown (get_or s i 0) ≡ true) × (undotted (get_or t (i + 1) 0) ≡ true)
each_front {s} {t} c i h =
    let z : 0 + i ≡ i = omega arith in
    both_true (shown (get_or s i 0)) (undotted (get_or t (i + 1) 0)) (rw z at (c.pass refl i h))
