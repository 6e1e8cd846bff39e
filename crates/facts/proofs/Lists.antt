-- Lists: their first and last elements, lists of a known length, and maps.
use mathlib.Core.Path.{◌≡◌, refl, sym, ap, ◌∙◌}
use mathlib.Core.List.{List, [], ◌∷◌, ◌++◌, map, reverse, reverse_aux-append}
use Prim.Native.Nat.{ℕ, zero, suc, ◌+◌, ◌-◌, ◌≤◌, ◌<◌}
use native.Mathlib.Numerals.{add-one}
use native.Mathlib.Omega.{arith}
use lib.ListN.{length, take, drop, get_or, length-append}
use lib.Seq.{drop-cons, take-suc, take-length}

module _ {A : Type 0} where
  -- ---- the first and the last

  -- the kit's `drop-cons`, with the next index as code has it
  pub drop_next : (l : List A) (i : ℕ) (d : A) → i < length l → drop i l ≡ get_or l i d ∷ drop (i + 1) l
  drop_next l i d h = rw (add-one i) (drop-cons l i d h)

  pub take_last : (l : List A) (d : A) → 1 ≤ length l → take (length l - 1) l ++ get_or l (length l - 1) d ∷ [] ≡ l
  take_last l d h =
      let e : suc (length l - 1) ≡ length l = omega arith in
      sym (take-suc l (length l - 1) d (omega arith)) ∙ ap (λ (i : ℕ). take i l) e ∙ take-length l

  pub last_not_nil : (l : List A) (x : A) → l ++ x ∷ [] ≡ [] → ⊥
  last_not_nil l x e = omega (arith, ap length e, length-append l (x ∷ []))

  pub last_same : (l m : List A) (x y : A) → l ++ x ∷ [] ≡ m ++ y ∷ [] → x ≡ y
  last_same l m x y e =
      ap (λ (r : List A). get_or r 0 x) (sym (reverse_aux-append l (x ∷ []) []) ∙ ap reverse e ∙ reverse_aux-append m (y ∷ []) [])

  -- ---- lists of a known length

  pub length_none : (l : List A) → length l ≤ 0 → l ≡ []
  length_none [] h = refl
  length_none (x ∷ l) h = absurd (omega arith)

  pub length_one : (l : List A) (d : A) → 1 ≤ length l → length l ≤ 1 → l ≡ get_or l 0 d ∷ []
  length_one [] d h k = absurd (omega arith)
  length_one (x ∷ []) d h k = refl
  length_one (x ∷ y ∷ l) d h k = absurd (omega arith)

-- ---- maps

module _ {A B : Type 0} (f : A → B) where
  pub map_take : (n : ℕ) (l : List A) → map f (take n l) ≡ take n (map f l)
  map_take zero l = refl
  map_take (suc n) [] = refl
  map_take (suc n) (x ∷ l) = ap (λ (t : List B). f x ∷ t) (map_take n l)

  pub map_drop : (n : ℕ) (l : List A) → map f (drop n l) ≡ drop n (map f l)
  map_drop zero l = refl
  map_drop (suc n) [] = refl
  map_drop (suc n) (x ∷ l) = map_drop n l

  pub map_append : (l m : List A) → map f (l ++ m) ≡ map f l ++ map f m
  map_append [] m = refl
  map_append (x ∷ l) m = ap (λ (t : List B). f x ∷ t) (map_append l m)
