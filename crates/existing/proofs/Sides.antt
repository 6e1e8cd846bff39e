-- Every owner of a list that the check accepts lies on one side of every gap of it: not after the owner of the gap, or not before its next
-- name (`sides`), for the owners rise with their indexes.
use mathlib.Core.Path.{◌≡◌, refl, sym, ap, ◌∙◌}
use mathlib.Core.List.{List, [], ◌∷◌, Memᴰ}
use mathlib.Core.Logic.{◌⊎◌, inl, inr}
use Prim.Native.Nat.{ℕ, zero, suc, ◌+◌, ◌≤◌, ◌<◌}
use native.Mathlib.Decide.{dec_lt}
use native.Mathlib.Omega.{arith}
use lib.ListN.{length, get_or, get_or-eq_default}
use Rattle.space.specs.Fold.{folded}
use Rattle.order.specs.Order.{SortsBefore, folded_labels}
use Rattle.order.proofs.Lexicographic.{number_total}
use Rattle.owners.specs.Lists.{Rises, none, next}
use Rattle.owners.specs.Gaps.{next_of}
use Rattle.owners.proofs.Layouts.{get_d_any}
use Rattle.owners.proofs.Searching.{rises_at}
use Rattle.owners.proofs.Accepting.{Listed}
use Rattle.existing.proofs.Subtrees.{NotAfter}

-- ---- members by index

module _ {A : Type 0} where
  pub at_member : (l : List A) (i : ℕ) (d : A) → i < length l → Memᴰ (get_or l i d) l
  at_member [] i d h = absurd (omega arith)
  at_member (x ∷ l) zero d h = Memᴰ.head refl
  at_member (x ∷ l) (suc i) d h = Memᴰ.tail (at_member l i d (omega arith))

  member_at : {x : A} {l : List A} → Memᴰ x l → (d : A) → (i : ℕ) × (i < length l) × (get_or l i d ≡ x)
  member_at (Memᴰ.head e) d = (0, omega arith, sym e)
  member_at (Memᴰ.tail m) d = let r = member_at m d in (suc r.0, omega (arith, r.1), r.2)

-- ---- the order of a list

rises_order : {In : List ℕ → Type 0} {before : List ℕ} {os : List (List ℕ)} → Rises In before os → (i j : ℕ) → i < j
    → j < length (before ∷ os) → SortsBefore (get_or (before ∷ os) i []) (get_or (before ∷ os) j [])
rises_order r i zero h k = absurd (omega arith)
rises_order r zero (suc j) h k = (rises_at r j (omega arith)).1
rises_order none (suc i) (suc j) h k = absurd (omega arith)
rises_order (next o m s r) (suc i) (suc j) h k = rises_order r i j (omega arith) (omega arith)

module _ {apex : List ℕ} {limit : ℕ} {owners : List (List ℕ)} (l : Listed apex limit owners) where
  order : (i j : ℕ) → i < j → j < length owners → SortsBefore (get_or owners i []) (get_or owners j [])
  order i j h k = rw l.first (rises_order l.rises i j h (rw l.first at k))

  not_after : (i j : ℕ) → i ≤ j → j < length owners → NotAfter (get_or owners i []) (get_or owners j [])
  not_after i j h k = go (number_total i j)
    where
      go : (i < j) ⊎ ((i ≡ j) ⊎ (j < i)) → NotAfter (get_or owners i []) (get_or owners j [])
      go (inl f) = inl (order i j f k)
      go (inr (inl e)) = inr (ap (λ (n : ℕ). folded_labels (get_or owners n [])) e)
      go (inr (inr f)) = absurd (omega arith)

  -- ---- a gap

  module _ (i : ℕ) (h : i < length owners) where
    abbrev owner : List ℕ
    owner = get_or owners i []

    abbrev following : List ℕ
    following = next_of owners i

    -- the next name: the next owner, which is after this one, or behind the last owner the apex
    pub data Ends : Type 0 where
      inner : i + 1 < length owners → following ≡ get_or owners (i + 1) [] → SortsBefore owner following → Ends
      last : length owners ≤ i + 1 → following ≡ folded apex → Ends

    pub ends : Ends
    ends = go (dec_lt (i + 1) (length owners))
      where
        go : Dec (i + 1 < length owners) → Ends
        go (yes k) =
            let e = get_d_any owners (i + 1) (get_or owners 0 []) [] k in inner k e (rw e (order i (i + 1) (omega arith) k))
        go (no f) =
            let first : get_or owners 0 [] ≡ folded apex = rw l.first in
            last (omega arith) (get_or-eq_default owners (get_or owners 0 []) (omega arith) ∙ first)

    -- an owner is not after the gap's, or not before the next name of a gap that is not the last
    abbrev pub Sides : List ℕ → Type 0
    Sides name = NotAfter name owner ⊎ (SortsBefore owner following × NotAfter following name)

    sides_at : (j : ℕ) → j < length owners → Sides (get_or owners j [])
    sides_at j k = go (dec_lt i j) ends
      where
        go : Dec (i < j) → Ends → Sides (get_or owners j [])
        go (no f) e = inl (not_after j i (omega arith) h)
        go (yes f) (inner g e s) = inr (s, rw e (not_after (i + 1) j (omega arith) k))
        go (yes f) (last g e) = absurd (omega arith)

    pub sides : (name : List ℕ) → Memᴰ name owners → Sides name
    sides name m = let r = member_at m [] in rw r.2 at (sides_at r.0 r.1)

    pub next_member : Memᴰ following owners
    next_member = go ends
      where
        go : Ends → Memᴰ following owners
        go (inner g e s) = rw e (at_member owners (i + 1) [] g)
        go (last g e) = rw e (rw l.first (Memᴰ.head refl))
