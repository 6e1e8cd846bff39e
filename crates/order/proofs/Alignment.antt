-- Comparing labels from the right: what the number is where so many labels are shared and these are left.
use mathlib.Core.Path.{◌≡◌, refl, sym, ap, ◌∙◌}
use mathlib.Core.List.{List, [], ◌∷◌, ◌++◌, reverse, reverse-append}
use Prim.Native.Nat.{ℕ, zero, suc, ◌+◌, ◌-◌, ◌≤◌, ◌<◌}
use native.Mathlib.Nat.{add-zero}
use native.Mathlib.Omega.{arith}
use lib.IntN.{ℤ, pos}
use lib.ListN.{length, take, drop, get_or, length-drop, length-reverse, take-append-drop}
use lib.Seq.{take-suc}
use Rattle.std.specs.declared.cmp.Ordering.{Ordering}
use Rattle.std.specs.declared.cmp.Ordering.TheVariants.{Less, Equal, Greater}
use Rattle.order.specs.Compare.{order_of, decide, right_order, counted, right_shared, signed, number_of}
use Rattle.order.proofs.Comparison.{order_refl}

-- so many labels are shared, and A and B are left, the rightmost first
abbrev pub number_at : ℕ → List (List ℕ) → List (List ℕ) → ℤ
number_at shared A B = signed (right_order A B) (shared + right_shared A B)

-- the first i labels of S and the first j of T are left
pub record Aligned (S T : List (List ℕ)) (i j shared : ℕ) : Type 0 where
  pub first : i + shared ≡ length S
  pub second : j + shared ≡ length T
  pub number : number_of S T ≡ number_at shared (reverse (take i S)) (reverse (take j T))

pub order_behind : (X A B : List (List ℕ)) → right_order (X ++ A) (X ++ B) ≡ right_order A B
order_behind [] A B = refl
order_behind (l ∷ X) A B = rw (order_refl l) (order_behind X A B)

pub shared_behind : (X A B : List (List ℕ)) → right_shared (X ++ A) (X ++ B) ≡ length X + right_shared A B
shared_behind [] A B = omega arith
shared_behind (l ∷ X) A B = rw (order_refl l) (omega (arith, shared_behind X A B))

number_behind : (X A B : List (List ℕ)) → signed (right_order (X ++ A) (X ++ B)) (right_shared (X ++ A) (X ++ B)) ≡ number_at (length X) A B
number_behind X A B = rw (order_behind X A B, shared_behind X A B)

halves : (S : List (List ℕ)) (i : ℕ) → reverse S ≡ reverse (drop i S) ++ reverse (take i S)
halves S i = ap reverse (sym (take-append-drop i S)) ∙ reverse-append (take i S) (drop i S)

-- the last labels are the same
pub aligned_shared : (S T : List (List ℕ)) (m n shared : ℕ) → m ≡ length S → n ≡ length T → shared ≤ m → shared ≤ n
    → drop (m - shared) S ≡ drop (n - shared) T
    → Aligned S T (m - shared) (n - shared) shared
aligned_shared S T m n shared em en hm hn e =
    record {
      first = omega arith;
      second = omega arith;
      number = rw (halves S (m - shared), halves T (n - shared), e)
          (number_behind (reverse (drop (n - shared) T)) (reverse (take (m - shared) S)) (reverse (take (n - shared) T))
          ∙ ap (λ (k : ℕ). number_at k (reverse (take (m - shared) S)) (reverse (take (n - shared) T)))
          (length-reverse (drop (n - shared) T) ∙ simp length-drop (omega arith)));
    }

last : (S : List (List ℕ)) (i : ℕ) → 0 < i → i ≤ length S → reverse (take i S) ≡ get_or S (i - 1) [] ∷ reverse (take (i - 1) S)
last S zero h k = absurd (omega arith)
last S (suc i) h k =
    let e : suc i - 1 ≡ i = omega arith in
    rw (e, take-suc S i [] (omega arith)) (reverse-append (take i S) (get_or S i [] ∷ []))

module _ (S T : List (List ℕ)) (i j shared : ℕ) (a : Aligned S T i j shared) where
  pub first_ended : i ≤ 0 → 0 < j → number_of S T ≡ signed Less shared
  first_ended hi hj =
      let e : i ≡ 0 = omega arith in
      a.number ∙ rw (e, last T j hj (omega (arith, a.second)), add-zero)

  pub second_ended : 0 < i → j ≡ 0 → number_of S T ≡ signed Greater shared
  second_ended hi e = a.number ∙ rw (e, last S i hi (omega (arith, a.first)), add-zero)

  pub both_ended : i ≤ 0 → j ≤ 0 → number_of S T ≡ pos 0
  both_ended hi hj =
      let e : i ≡ 0 = omega arith in
      let f : j ≡ 0 = omega arith in
      a.number ∙ rw (e, f)

  module _ (hi : 0 < i) (hj : 0 < j) (o : Ordering) (eo : o ≡ order_of (get_or S (i - 1) []) (get_or T (j - 1) [])) where
    left : number_of S T
        ≡ signed (decide o (right_order (reverse (take (i - 1) S)) (reverse (take (j - 1) T))))
        (shared + counted o (right_shared (reverse (take (i - 1) S)) (reverse (take (j - 1) T))))
    left = a.number ∙ rw (last S i hi (omega (arith, a.first)), last T j hj (omega (arith, a.second)), ← eo)

    pub label_earlier : o ≡ Less → number_of S T ≡ signed Less shared
    label_earlier e = left ∙ rw (e, add-zero)

    pub label_later : o ≡ Greater → number_of S T ≡ signed Greater shared
    label_later e = left ∙ rw (e, add-zero)

    pub aligned_next : o ≡ Equal → Aligned S T (i - 1) (j - 1) (shared + 1)
    aligned_next e =
        record {
          first = omega (arith, a.first);
          second = omega (arith, a.second);
          number = left
              ∙ rw e (ap (λ (k : ℕ). signed (right_order (reverse (take (i - 1) S)) (reverse (take (j - 1) T))) k) (omega arith));
        }
