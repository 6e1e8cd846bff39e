-- The greatest labels as they are written: their octets are all the greatest one first, and then the length octets are set, those of the
-- full labels from the right (`sizes_greatest`).
use mathlib.Core.Path.{◌≡◌, refl, sym, ap, ◌∙◌}
use mathlib.Core.List.{List, ◌∷◌, ◌++◌, append_assoc}
use mathlib.Core.Bool.{Bool, true, false}
use Prim.Native.Nat.{ℕ, zero, suc, ◌+◌, ◌-◌, ◌*◌, ◌%◌, ◌≤◌, ◌<◌}
use native.Mathlib.Omega.{arith}
use borrow.Author.Tests.{leb-true, leb-false}
use lib.ListN.{set, replicate, length-replicate, replicate-append-replicate}
use lib.Seq.{set_at}
use lib.Dec.{leb}
use Rattle.plan.specs.Private.Greatest.{greatest_octets}
use Rattle.writing.specs.Private.Prepared.{sizes}
use Rattle.plan.proofs.FrontLabels.{greatest_first, greatest_next}

-- what is set at the front is written over
sizes_front : (k n x : ℕ) (l : List ℕ) → sizes k 0 n (x ∷ l) ≡ (n + 63) % 64 ∷ l
sizes_front zero n x l = refl
sizes_front (suc k) n x l = sizes_front k n 63 l

module _ (g n : ℕ) where
  first : (k m : ℕ) (t : List ℕ) → 1 ≤ m → m ≤ 64 → (n + 63) % 64 ≡ (m + 63) % 64
      → sizes k 0 n (replicate m g ++ t) ≡ greatest_octets g m ++ t
  first k zero t a b e = absurd (omega arith)
  first k (suc r) t a b e =
      let size : (n + 63) % 64 ≡ r = omega arith in
      sizes_front k n g (replicate r g ++ t) ∙ rw (size, greatest_first g r (omega arith))

  pub sizes_greatest : (k m : ℕ) (t : List ℕ) → 1 ≤ m → m ≤ 64 * k + 64 → (n + 63) % 64 ≡ (m + 63) % 64
      → sizes k m n (replicate m g ++ t) ≡ greatest_octets g m ++ t
  sizes_greatest zero m t a b e = first zero m t a (omega arith) e
  sizes_greatest (suc k) m t a b e = go (leb m 64) refl (sizes_greatest k (m - 64))
    where
      go : (c : Bool) → leb m 64 ≡ c
          → ((u : List ℕ) → 1 ≤ m - 64 → m - 64 ≤ 64 * k + 64 → (n + 63) % 64 ≡ (m - 64 + 63) % 64
          → sizes k (m - 64) n (replicate (m - 64) g ++ u) ≡ greatest_octets g (m - 64) ++ u)
          → sizes k (m - 64) n (set (replicate m g ++ t) (m - 64) 63) ≡ greatest_octets g m ++ t
      go true f fewer = let z : m - 64 ≡ 0 = omega (arith, leb-true m 64 f) in rw z (first (suc k) m t a (leb-true m 64 f) e)
      go false f fewer =
          let h : 64 < m = leb-false m 64 f in
          let j : ℕ = m - 64 in
          let count : m ≡ j + suc 63 = omega arith in
          let parts : replicate m g ≡ replicate j g ++ g ∷ replicate 63 g =
          ap (λ (i : ℕ). replicate i g) count ∙ sym (replicate-append-replicate j (suc 63) g) in
          ap (λ (l : List ℕ). sizes k j n (set l j 63))
          (ap (λ (l : List ℕ). l ++ t) parts ∙ append_assoc (replicate j g) (g ∷ replicate 63 g) t)
          ∙ ap (sizes k j n) (set_at (replicate j g) g (replicate 63 g ++ t) 63 j (length-replicate j g))
          ∙ fewer (63 ∷ replicate 63 g ++ t) (omega arith) (omega arith) (omega arith)
          ∙ sym (append_assoc (greatest_octets g j) (63 ∷ replicate 63 g) t)
          ∙ ap (λ (l : List ℕ). l ++ t) (sym (greatest_next g j) ∙ ap (greatest_octets g) (sym count))

-- the length octets one after the other
pub sizes_set : (d : List ℕ) (n i j k : ℕ) → i ≡ n - 64 → j ≡ n - 128 → k ≡ n - 192
    → set (set (set (set d i 63) j 63) k 63) 0 ((n + 63) % 64) ≡ sizes 3 n n d
sizes_set d n i j k ei ej ek =
    let second : j ≡ n - 64 - 64 = omega arith in
    let third : k ≡ n - 64 - 64 - 64 = omega arith in
    rw (ei, second, third)
