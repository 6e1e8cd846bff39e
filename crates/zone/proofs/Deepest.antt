-- The greatest labels in front are the greatest completion of the canonical sequence (`fill_labels_law`), as the greatest octets are of a
-- label (`fill_label`).
use mathlib.Core.Path.{◌≡◌, refl, sym, ap, ◌∙◌}
use mathlib.Core.List.{List, [], ◌∷◌, ◌++◌, append-nil}
use mathlib.Core.Option.{none, some}
use mathlib.Core.Bool.{Bool, true, false, cond}
use Prim.Native.Nat.{ℕ, zero, suc, ◌-◌, ◌≤◌, ◌<◌, min}
use native.Mathlib.Nat.{suc-min-suc, suc-sub-suc, min-zero, zero-min, sub-zero}
use native.Mathlib.Omega.{arith}
use borrow.Author.Tests.{leb-true, leb-false}
use lib.ListN.{replicate}
use lib.Dec.{leb}
use Rattle.order.specs.Sequence.{closed, sequence}
use Rattle.order.specs.Place.{Place, at, within, room}
use Rattle.zone.specs.Alphabet.{below}
use Rattle.zone.specs.Ring.{cap, fill, top}
use Rattle.zone.specs.Steps.{greatest, fill_labels}
use Rattle.zone.proofs.Spelling.{sequence_cons, sequence_cons_append}

module _ (allowed : ℕ → Bool) (has-greatest : below allowed 256 ≡ some (greatest allowed)) where
  -- ---- the greatest completion

  cap_some : (n : ℕ) (q : Place) → room n q ≡ true → cap allowed n q ≡ some (greatest allowed)
  unfolding cap
  cap_some n q e = rw (e, has-greatest)

  cap_none : (n : ℕ) (q : Place) → room n q ≡ false → cap allowed n q ≡ none
  unfolding cap
  cap_none n q e = rw e

  -- in a label with r octets left, where m octets fit: as many as both allow, the label's end, and what fits after it
  pub fill_label : (m d r : ℕ)
      → fill allowed (suc m) (within d r) (cap allowed (suc m) (within d r))
      ≡ closed (replicate (min r m) (greatest allowed)) (top allowed (m - min r m) (at d))
  unfolding fill top closed
  fill_label zero d r = rw (cap_none 1 (within d r) refl, min-zero r)
  fill_label (suc m) d zero = rw (cap_none (suc (suc m)) (within d zero) refl, zero-min (suc m), sub-zero (suc m))
  fill_label (suc m) d (suc r) =
      rw (cap_some (suc (suc m)) (within d (suc r)) refl, suc-min-suc r m, suc-sub-suc m (min r m))
      (ap (λ (t : List ℕ). suc (greatest allowed) ∷ t) (fill_label m d r))

  top_label : (m d : ℕ)
      → top allowed (suc (suc m)) (at (suc d))
      ≡ closed (replicate (suc (min 62 m)) (greatest allowed)) (top allowed (m - min 62 m) (at d))
  unfolding fill top closed
  top_label m d =
      rw (cap_some (suc (suc m)) (at (suc d)) refl) (ap (λ (t : List ℕ). suc (greatest allowed) ∷ t) (fill_label m d 62))

  top_long : (n d : ℕ) → 64 ≤ n → top allowed n (at (suc d)) ≡ closed (replicate 63 (greatest allowed)) (top allowed (n - 64) (at d))
  top_long zero d h = absurd (omega arith)
  top_long (suc zero) d h = absurd (omega arith)
  top_long (suc (suc m)) d h =
      let e : min 62 m ≡ 62 = omega arith in
      let f : m - 62 ≡ suc (suc m) - 64 = omega arith in
      rw (← f) (top_label m d ∙ rw e)

  top_short : (n d : ℕ) → 2 ≤ n → n < 64 → top allowed n (at (suc d)) ≡ closed (replicate (n - 1) (greatest allowed)) []
  unfolding fill top
  top_short zero d h k = absurd (omega arith)
  top_short (suc zero) d h k = absurd (omega arith)
  top_short (suc (suc m)) d h k =
      let e : min 62 m ≡ m = omega arith in
      let f : suc (suc m) - 1 ≡ suc m = omega arith in
      let z : m - m ≡ 0 = omega arith in
      rw f (top_label m d ∙ rw (e, z))

  top_empty : (n d : ℕ) → n < 2 → top allowed n (at d) ≡ []
  unfolding fill cap top
  top_empty zero d h = refl
  top_empty (suc zero) d h = refl
  top_empty (suc (suc n)) d h = absurd (omega arith)

  top_zero : (n : ℕ) → top allowed n (at zero) ≡ []
  unfolding fill cap top
  top_zero zero = refl
  top_zero (suc zero) = refl
  top_zero (suc (suc n)) = refl

  pub fill_labels_law : (d left : ℕ) (ls : List (List ℕ))
      → sequence (fill_labels allowed d left ls) ≡ sequence ls ++ top allowed left (at d)
  unfolding fill_labels
  fill_labels_law zero left ls = rw (top_zero left) (sym (append-nil (sequence ls)))
  fill_labels_law (suc d) left ls =
      go (leb 64 left) (leb 2 left) refl refl (fill_labels_law d (left - 64) (replicate 63 (greatest allowed) ∷ ls))
    where
      more : List (List ℕ)
      more = fill_labels allowed d (left - 64) (replicate 63 (greatest allowed) ∷ ls)

      go : (a b : Bool) → leb 64 left ≡ a → leb 2 left ≡ b
          → sequence more ≡ sequence (replicate 63 (greatest allowed) ∷ ls) ++ top allowed (left - 64) (at d)
          → sequence (cond a more (cond b (replicate (left - 1) (greatest allowed) ∷ ls) ls)) ≡ sequence ls ++ top allowed left (at (suc d))
      go true b ea eb ih =
          ih ∙ sequence_cons_append (replicate 63 (greatest allowed)) ls (top allowed (left - 64) (at d))
          ∙ ap (λ (t : List ℕ). sequence ls ++ t) (sym (top_long left d (leb-true 64 left ea)))
      go false true ea eb ih =
          sequence_cons (replicate (left - 1) (greatest allowed)) ls
          ∙ ap (λ (t : List ℕ). sequence ls ++ t) (sym (top_short left d (leb-true 2 left eb) (leb-false 64 left ea)))
      go false false ea eb ih = rw (top_empty left (suc d) (leb-false 2 left eb)) (sym (append-nil (sequence ls)))
