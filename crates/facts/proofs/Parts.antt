-- Parts of lists: where two lists agree, how a part is split, and what stands in it.
use mathlib.Core.Path.{◌≡◌, sym, ap, ◌∙◌}
use mathlib.Core.List.{List, ◌∷◌, ◌++◌}
use Prim.Native.Nat.{ℕ, zero, suc, ◌+◌, ◌-◌, ◌≤◌, ◌<◌}
use native.Mathlib.Nat.{sub-zero, zero-sub, suc-sub-suc}
use native.Mathlib.Numerals.{add-one}
use native.Mathlib.Omega.{arith}
use lib.ListN.{length, take, drop, get_or, replicate, take-append-drop, length-drop}
use lib.Seq.{slice, take-take, take-add, take_all, take-append-add, length-take-le, get_or-take}
use lib.Seq.{drop-drop, drop_at, drop-append-le, get_or-drop}

module _ {A : Type 0} where
  -- ---- where two lists agree

  pub take_fewer : (m n : ℕ) (x y : List A) → m ≤ n → take n x ≡ take n y → take m x ≡ take m y
  take_fewer m n x y h e = sym (take-take m n x h) ∙ ap (take m) e ∙ take-take m n y h

  pub drop_more : (m n : ℕ) (x y : List A) → m ≤ n → drop m x ≡ drop m y → drop n x ≡ drop n y
  drop_more m n x y h e =
      let k : m + (n - m) ≡ n = omega arith in
      rw (← k, ← drop-drop (n - m) m x, ← drop-drop (n - m) m y, e)

  -- ---- the elements from one index to another

  pub slice_take : (a b : ℕ) (l : List A) → a ≤ b → a ≤ length l → slice a b l ≡ take (b - a) (drop a l)
  slice_take a b l h room =
      let n : a + (b - a) ≡ b = omega arith in
      rw (← n, take-add a (b - a) l, n) (drop_at (take a l) (take (b - a) (drop a l)) a (length-take-le a l room))

  -- from an index on where two lists agree
  pub slice_behind : (a b : ℕ) (x y : List A) → a ≤ length x → a ≤ length y → a ≤ b → drop a x ≡ drop a y → slice a b x ≡ slice a b y
  slice_behind a b x y hx hy h e = rw (slice_take a b x h hx, slice_take a b y h hy, e)

  pub slice_split : (a b c : ℕ) (l : List A) → a ≤ b → b ≤ c → b ≤ length l → slice a c l ≡ slice a b l ++ slice b c l
  slice_split a b c l h g room =
      ap (drop a) (sym (take-append-drop b (take c l)) ∙ ap (λ (t : List A). t ++ drop b (take c l)) (take-take b c l g))
      ∙ drop-append-le a (take b l) (drop b (take c l)) (omega (arith, length-take-le b l room))

  -- ---- what stands in a part

  pub part_at : (l : List A) (first count i : ℕ) (d : A) → i < count → get_or (take count (drop first l)) i d ≡ get_or l (first + i) d
  part_at l first count i d h = get_or-take count (drop first l) i d h ∙ get_or-drop first l i d

  pub part_rest : (l : List A) (i : ℕ) → take (length l - i) (drop i l) ≡ drop i l
  part_rest l i = take_all (length l - i) (drop i l) (omega (arith, length-drop i l))

  pub take_append_more : (a b : List A) (x : A) (n k : ℕ) → length a ≡ n → take (n + (k + 1)) (a ++ x ∷ b) ≡ a ++ x ∷ take k b
  take_append_more a b x n k e = rw (← e, add-one k) (take-append-add a (x ∷ b) (suc k))

  pub drop_replicate : (n m : ℕ) (x : A) → drop n (replicate m x) ≡ replicate (m - n) x
  drop_replicate zero m x = rw sub-zero
  drop_replicate (suc n) zero x = rw zero-sub
  drop_replicate (suc n) (suc m) x = rw suc-sub-suc (drop_replicate n m x)
