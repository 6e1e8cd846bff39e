-- Of at most 254 octets above the apex a depth of 127 or more never binds: the steps need no test of it (`predecessor_absolute`,
-- `fill_labels_enough`).
use mathlib.Core.Path.{◌≡◌, refl, ap}
use mathlib.Core.List.{List, [], ◌∷◌}
use mathlib.Core.Bool.{Bool, cond}
use Prim.Native.Nat.{ℕ, zero, suc, ◌+◌, ◌-◌, ◌*◌, ◌≤◌}
use native.Mathlib.Omega.{arith}
use borrow.Author.Tests.{lt-leb, le-ltb}
use lib.ListN.{length, take, get_or, replicate}
use lib.Dec.{leb}
use Rattle.name.specs.Labels.{Sizes}
use Rattle.zone.specs.Alphabet.{below}
use Rattle.zone.specs.Zone.{size}
use Rattle.zone.specs.Steps.{greatest, fill_labels, lowered, predecessor_steps}

-- a label takes two octets or more
pub size_count : (ls : List (List ℕ)) → Sizes ls → 2 * length ls ≤ size ls
size_count [] v = omega arith
size_count (l ∷ ls) v = omega (arith, v.0, size_count ls v.2)

module _ (allowed : ℕ → Bool) where
  -- more labels than the octets allow change nothing
  pub fill_labels_enough : (k j left : ℕ) (ls : List (List ℕ)) → left ≤ 2 * k + 1 → left ≤ 2 * j + 1
      → fill_labels allowed k left ls ≡ fill_labels allowed j left ls
  unfolding fill_labels
  fill_labels_enough zero zero left ls h g = refl
  fill_labels_enough zero (suc j) left ls h g = rw (lt-leb 64 left (omega arith), lt-leb 2 left (omega arith))
  fill_labels_enough (suc k) zero left ls h g = rw (lt-leb 64 left (omega arith), lt-leb 2 left (omega arith))
  fill_labels_enough (suc k) (suc j) left ls h g =
      ap (λ (more : List (List ℕ)). cond (leb 64 left) more (cond (leb 2 left) (replicate (left - 1) (greatest allowed) ∷ ls) ls))
      (fill_labels_enough k j (left - 64) (replicate 63 (greatest allowed) ∷ ls) (omega arith) (omega arith))

  module _ (n d : ℕ) (many : 127 ≤ d) (few : n ≤ 254) where
    pub predecessor_absolute : (l : List ℕ) (ls : List (List ℕ)) → Sizes (l ∷ ls) → size (l ∷ ls) ≤ n
        → predecessor_steps allowed n d (l ∷ ls)
        ≡ lowered allowed n d (below allowed (get_or l (length l - 1) 0)) (take (length l - 1) l) ls
    unfolding predecessor_steps
    predecessor_absolute l ls v h = rw (le-ltb d (suc (length ls)) (omega (arith, size_count (l ∷ ls) v)))
