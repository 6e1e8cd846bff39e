-- Two labels, octet by octet: their order where the first k octets are the same.
use mathlib.Core.Path.{◌≡◌, refl, ◌∙◌}
use mathlib.Core.List.{List, [], ◌∷◌}
use Prim.Native.Nat.{ℕ, zero, suc, ◌+◌, ◌≤◌, ◌<◌}
use native.Mathlib.Omega.{arith}
use borrow.Author.Tests.{lt-ltb, le-ltb}
use lib.Dec.{ltb}
use mathlib.Core.Bool.{cond}
use lib.ListN.{length, take, drop, get_or, length-map, get_or-map, drop_of_length-le}
use Rattle.facts.proofs.Lists.{drop_next}
use Rattle.space.specs.Fold.{folded, lower_of}
use Rattle.std.specs.declared.cmp.Ordering.TheVariants.{Less, Equal, Greater}
use Rattle.order.specs.Compare.{order_of}

pub next_octet : (a : List ℕ) (k : ℕ) → k < length a → drop k (folded a) ≡ lower_of (get_or a k 0) ∷ drop (k + 1) (folded a)
next_octet a k h =
    drop_next (folded a) k 0 (simp length-map h)
    ∙ rw (get_or-map lower_of a k 0)

pub no_octet : (a : List ℕ) (k : ℕ) → length a ≤ k → drop k (folded a) ≡ []
no_octet a k h = let e : length (folded a) ≤ k = simp length-map h in drop_of_length-le (folded a) e

-- the first k octets are equal, so the octets from there on decide
pub record Alike (a b : List ℕ) (k : ℕ) : Type 0 where
  pub same : order_of (folded a) (folded b) ≡ order_of (drop k (folded a)) (drop k (folded b))

-- equal octets at the front decide nothing
order_behind : (k : ℕ) (x y : List ℕ) → k ≤ length x → k ≤ length y → take k x ≡ take k y → order_of x y ≡ order_of (drop k x) (drop k y)
order_behind zero x y hx hy e = refl
order_behind (suc k) [] y hx hy e = absurd (omega arith)
order_behind (suc k) (u ∷ x) [] hx hy e = absurd (omega arith)
order_behind (suc k) (u ∷ x) (v ∷ y) hx hy e =
    let same : u ≡ v = cc in
    rw (same, le-ltb v v (omega arith)) (order_behind k x y (omega arith) (omega arith) (cc))

pub alike_front : (a b : List ℕ) {k : ℕ} → (k ≤ length a) × (k ≤ length b) × (take k (folded a) ≡ take k (folded b)) → Alike a b k
alike_front a b {k} h =
    record { same = order_behind k (folded a) (folded b) (simp length-map (omega arith)) (simp length-map (omega arith)) h.2 }

module _ {a b : List ℕ} {k : ℕ} (g : Alike a b k) where
  pub second_ends : k < length a → length b ≤ k → Greater ≡ order_of (folded a) (folded b)
  second_ends ha hb = rw (g.same, next_octet a k ha, no_octet b k hb)

  pub first_ends : length a ≤ k → k < length b → Less ≡ order_of (folded a) (folded b)
  first_ends ha hb = rw (g.same, no_octet a k ha, next_octet b k hb)

  pub both_end : length a ≤ k → length b ≤ k → Equal ≡ order_of (folded a) (folded b)
  both_end ha hb = rw (g.same, no_octet a k ha, no_octet b k hb)

  module _ (ha : k < length a) (hb : k < length b) {x y : ℕ} (ex : x ≡ lower_of (get_or a k 0)) (ey : y ≡ lower_of (get_or b k 0)) where
    octets : order_of (folded a) (folded b)
        ≡ cond (ltb x y) Less (cond (ltb y x) Greater (order_of (drop (k + 1) (folded a)) (drop (k + 1) (folded b))))
    octets = rw (g.same, next_octet a k ha, next_octet b k hb, ex, ey)

    pub less : x < y → Less ≡ order_of (folded a) (folded b)
    less h = rw (octets, lt-ltb x y h)

    pub more : y < x → Greater ≡ order_of (folded a) (folded b)
    more h = rw (octets, le-ltb x y (omega arith), lt-ltb y x h)

    pub equal : x ≤ y → y ≤ x → Alike a b (k + 1)
    equal h i = record { same = rw (octets, le-ltb x y i, le-ltb y x h) }
