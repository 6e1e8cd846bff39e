-- The number of shared labels is what its name says: the last so many labels are the same, and where both names have one more before them,
-- these differ. So the comparison lies between -127 and 127.
use mathlib.Core.Path.{◌≡◌, refl}
use mathlib.Core.List.{List, [], ◌∷◌, reverse}
use Prim.Native.Nat.{ℕ, zero, suc, ◌≤◌, ◌<◌}
use native.Mathlib.Omega.{arith}
use lib.IntN.{nat_abs}
use lib.ListN.{length, take, get_or, length-reverse}
use Rattle.std.specs.declared.cmp.Ordering.{Ordering}
use Rattle.std.specs.declared.cmp.Ordering.TheVariants.{Less, Equal, Greater}
use Rattle.order.specs.Compare.{order_of, decide, right_order, counted, right_shared, signed, number_of}
use Rattle.order.proofs.Comparison.{order_same, order_differs, earlier_same, later_same}

-- two lists of labels share exactly their first k
pub record Shares (ls ms : List (List ℕ)) (k : ℕ) : Type 0 where
  pub first : k ≤ length ls
  pub second : k ≤ length ms
  pub same : take k ls ≡ take k ms
  pub differ : k < length ls → k < length ms → get_or ls k [] ≡ get_or ms k [] → ⊥

-- one label more, in the order o
one_more : (l m : List ℕ) (o : Ordering) → order_of l m ≡ o → (ls ms : List (List ℕ)) → Shares ls ms (right_shared ls ms)
    → Shares (l ∷ ls) (m ∷ ms) (counted o (right_shared ls ms))
one_more l m Less e ls ms h =
    record { first = omega arith; second = omega arith; same = refl; differ = λ a b f. order_differs l m Less e earlier_same f }
one_more l m Greater e ls ms h =
    record { first = omega arith; second = omega arith; same = refl; differ = λ a b f. order_differs l m Greater e later_same f }
one_more l m Equal e ls ms h =
    let f : l ≡ m = order_same l m e in
    let g : take (right_shared ls ms) ls ≡ take (right_shared ls ms) ms = h.same in
    record {
      first = omega (arith, h.first);
      second = omega (arith, h.second);
      same = (cc);
      differ = λ a b p. h.differ (omega arith) (omega arith) p;
    }

pub shared_labels_lem : (ls ms : List (List ℕ)) → Shares ls ms (right_shared ls ms)
shared_labels_lem [] ms = record { first = omega arith; second = omega arith; same = refl; differ = λ a b f. absurd (omega arith) }
shared_labels_lem (l ∷ ls) [] = record { first = omega arith; second = omega arith; same = refl; differ = λ a b f. absurd (omega arith) }
shared_labels_lem (l ∷ ls) (m ∷ ms) = one_more l m (order_of l m) refl ls ms (shared_labels_lem ls ms)

-- ---- the range

signed_more : (o : Ordering) (n k : ℕ) → nat_abs (signed o n) ≤ k → nat_abs (signed o (suc n)) ≤ suc k
signed_more Less n k h = omega arith
signed_more Equal n k h = omega arith
signed_more Greater n k h = omega arith

right_range : (k : ℕ) (ls ms : List (List ℕ)) → length ls ≤ k → length ms ≤ k
    → nat_abs (signed (right_order ls ms) (right_shared ls ms)) ≤ k
right_range k [] [] a b = omega arith
right_range k [] (m ∷ ms) a b = omega arith
right_range k (l ∷ ls) [] a b = omega arith
right_range zero (l ∷ ls) (m ∷ ms) a b = absurd (omega arith)
right_range (suc k) (l ∷ ls) (m ∷ ms) a b = go (order_of l m) (right_range k ls ms (omega arith) (omega arith))
  where
    go : (o : Ordering) → nat_abs (signed (right_order ls ms) (right_shared ls ms)) ≤ k
        → nat_abs (signed (decide o (right_order ls ms)) (counted o (right_shared ls ms))) ≤ suc k
    go Less h = omega arith
    go Equal h = signed_more (right_order ls ms) (right_shared ls ms) k h
    go Greater h = omega arith

pub number_range : (ls ms : List (List ℕ)) → length ls ≤ 127 → length ms ≤ 127 → nat_abs (number_of ls ms) ≤ 127
number_range ls ms a b = right_range 127 (reverse ls) (reverse ms) (omega (arith, length-reverse ls)) (omega (arith, length-reverse ms))
