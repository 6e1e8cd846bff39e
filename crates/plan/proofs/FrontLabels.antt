-- The greatest labels in front of a name: one short label or none, and full ones after it (`front_taken`). Their octets depend on their
-- number alone.
use mathlib.Core.Path.{◌≡◌, refl, sym, ap, ◌∙◌}
use mathlib.Core.List.{List, [], ◌∷◌, ◌++◌, append_assoc, append-nil}
use mathlib.Core.Bool.{Bool, true, false, cond}
use Prim.Native.Nat.{ℕ, zero, suc, ◌+◌, ◌-◌, ◌*◌, ◌/◌, ◌%◌, ◌≤◌, ◌<◌}
use native.Mathlib.Omega.{arith}
use borrow.Author.Tests.{leb-true, leb-false}
use lib.ListN.{length, replicate, length-append, length-replicate}
use lib.Dec.{leb}
use Rattle.zone.specs.Steps.{greatest, fill_labels}
use Rattle.spelling.specs.Private.LabelOctets.{label_octets}
use Rattle.spelling.proofs.LabelOctets.{label_octets_append}
use Rattle.plan.specs.Private.Greatest.{short, fulls, greatest_octets}
use Rattle.plan.specs.Private.Greatest.{Taken, full_labels_lem, all_but_one, all_octets_lem}

-- ---- n octets of greatest labels

module _ (g : ℕ) where
  short_length : (r : ℕ) → length (short g r) ≡ r
  unfolding short
  short_length zero = refl
  short_length (suc r) = ap suc (length-replicate r g)

  fulls_length : (m : ℕ) → length (fulls g m) ≡ 64 * m
  unfolding fulls
  fulls_length zero = refl
  fulls_length (suc m) = simp length-append (omega (arith, fulls_length m, short_length 64))

  pub greatest_length : (n : ℕ) → length (greatest_octets g n) ≡ n
  unfolding greatest_octets
  greatest_length n = simp length-append (omega (arith, short_length (n % 64), fulls_length (n / 64)))

  pub greatest_none : greatest_octets g 0 ≡ []
  unfolding greatest_octets short fulls
  greatest_none = refl

  -- the first label, which may be a full one
  pub greatest_first : (r : ℕ) → r < 64 → greatest_octets g (suc r) ≡ r ∷ replicate r g
  unfolding greatest_octets short fulls
  greatest_first r h = go (leb 63 r) refl
    where
      go : (b : Bool) → leb 63 r ≡ b → greatest_octets g (suc r) ≡ r ∷ replicate r g
      go true e = let same : r ≡ 63 = omega (arith, leb-true 63 r e) in rw same
      go false e =
          let rest : suc r % 64 ≡ suc r = omega (arith, leb-false 63 r e) in
          let none : suc r / 64 ≡ 0 = omega (arith, leb-false 63 r e) in
          rw (rest, none) (append-nil (r ∷ replicate r g))

  -- one more full label at the end
  pub greatest_next : (n : ℕ) → greatest_octets g (n + 64) ≡ greatest_octets g n ++ 63 ∷ replicate 63 g
  unfolding greatest_octets short fulls
  greatest_next n =
      let rest : (n + 64) % 64 ≡ n % 64 = omega arith in
      let more : (n + 64) / 64 ≡ suc (n / 64) = omega arith in
      rw (rest, more) (sym (append_assoc (short g (n % 64)) (fulls g (n / 64)) (63 ∷ replicate 63 g)))

-- ---- how many octets they take

taken_none : (left n : ℕ) → Taken 0 left n → n ≡ 0
taken_none left n (full_labels_lem a e) = omega arith
taken_none left n (all_but_one a r e) = omega arith
taken_none left n (all_octets_lem a r e) = omega arith

-- one full label fewer
taken_fewer : (k left n : ℕ) → Taken (suc k) left n → 64 ≤ left → Taken k (left - 64) (n - 64) × (n - 64 + 64 ≡ n)
taken_fewer k left n (full_labels_lem a e) h = (full_labels_lem (omega arith) (omega arith), omega arith)
taken_fewer k left n (all_but_one a r e) h = (all_but_one (omega arith) (omega arith) (omega arith), omega arith)
taken_fewer k left n (all_octets_lem a r e) h = (all_octets_lem (omega arith) (λ z. r (omega arith)) (omega arith), omega arith)

-- no full label
taken_short : (k left n : ℕ) → Taken (suc k) left n → left < 64 → 2 ≤ left → n ≡ left
taken_short k left n (full_labels_lem a e) h b = omega arith
taken_short k left n (all_but_one a r e) h b = omega arith
taken_short k left n (all_octets_lem a r e) h b = e

taken_too_short : (k left n : ℕ) → Taken (suc k) left n → left < 2 → n ≡ 0
taken_too_short k left n (full_labels_lem a e) h = omega arith
taken_too_short k left n (all_but_one a r e) h = omega arith
taken_too_short k zero n (all_octets_lem a r e) h = e
taken_too_short k (suc zero) n (all_octets_lem a r e) h = absurd (r refl)
taken_too_short k (suc (suc left)) n (all_octets_lem a r e) h = omega arith

pub taken_fits : {k left n : ℕ} → Taken k left n → n ≤ left
taken_fits (full_labels_lem a e) = omega arith
taken_fits (all_but_one a r e) = omega arith
taken_fits (all_octets_lem a r e) = omega arith

pub taken_not_one : {k left n : ℕ} → Taken k left n → n ≡ 1 → ⊥
taken_not_one (full_labels_lem a e) one = omega arith
taken_not_one (all_but_one a r e) one = omega arith
taken_not_one (all_octets_lem a r e) one = r (omega arith)

label_octets_one : (r g : ℕ) → label_octets (replicate r g ∷ []) ≡ r ∷ replicate r g
label_octets_one r g = rw (length-replicate r g, append-nil (replicate r g))

module _ (allowed : ℕ → Bool) where
  pub fill_labels_front : (k left : ℕ) (ls : List (List ℕ)) → fill_labels allowed k left ls ≡ fill_labels allowed k left [] ++ ls
  unfolding fill_labels
  fill_labels_front zero left ls = refl
  fill_labels_front (suc k) left ls =
      go (leb 64 left) (leb 2 left) (fill_labels_front k (left - 64) (l ∷ ls)) (fill_labels_front k (left - 64) (l ∷ []))
    where
      l : List ℕ
      l = replicate 63 (greatest allowed)

      more : List (List ℕ) → List (List ℕ)
      more = fill_labels allowed k (left - 64)

      go : (a b : Bool) → more (l ∷ ls) ≡ more [] ++ l ∷ ls → more (l ∷ []) ≡ more [] ++ l ∷ []
          → cond a (more (l ∷ ls)) (cond b (replicate (left - 1) (greatest allowed) ∷ ls) ls)
          ≡ cond a (more (l ∷ [])) (cond b (replicate (left - 1) (greatest allowed) ∷ []) []) ++ ls
      go true b e f = e ∙ sym (ap (λ (x : List (List ℕ)). x ++ ls) f ∙ append_assoc (more []) (l ∷ []) ls)
      go false true e f = refl
      go false false e f = refl

  pub front_taken : (k left n : ℕ) → Taken k left n → label_octets (fill_labels allowed k left []) ≡ greatest_octets (greatest allowed) n
  unfolding fill_labels
  front_taken zero left n t = sym (ap (greatest_octets (greatest allowed)) (taken_none left n t) ∙ greatest_none (greatest allowed))
  front_taken (suc k) left n t = go (leb 64 left) (leb 2 left) refl refl (front_taken k (left - 64))
    where
      g : ℕ
      g = greatest allowed

      more : List (List ℕ) → List (List ℕ)
      more = fill_labels allowed k (left - 64)

      first : (n : ℕ) → 2 ≤ n → n < 64 → label_octets (replicate (n - 1) g ∷ []) ≡ greatest_octets g n
      first zero a b = absurd (omega arith)
      first (suc r) a b = let e : suc r - 1 ≡ r = omega arith in rw e (label_octets_one r g ∙ sym (greatest_first g r (omega arith)))

      go : (a b : Bool) → leb 64 left ≡ a → leb 2 left ≡ b
          → ((m : ℕ) → Taken k (left - 64) m → label_octets (more []) ≡ greatest_octets g m)
          → label_octets (cond a (more (replicate 63 g ∷ [])) (cond b (replicate (left - 1) g ∷ []) [])) ≡ greatest_octets g n
      go true b ea eb ih =
          let t' = taken_fewer k left n t (leb-true 64 left ea) in
          ap label_octets (fill_labels_front k (left - 64) (replicate 63 g ∷ []))
          ∙ label_octets_append (more []) (replicate 63 g ∷ [])
          ∙ ap (λ (x : List ℕ). x ++ label_octets (replicate 63 g ∷ [])) (ih (n - 64) t'.0)
          ∙ ap (λ (x : List ℕ). greatest_octets g (n - 64) ++ x) (label_octets_one 63 g)
          ∙ sym (greatest_next g (n - 64))
          ∙ ap (greatest_octets g) t'.1
      go false true ea eb ih =
          first left (leb-true 2 left eb) (leb-false 64 left ea)
          ∙ ap (greatest_octets g) (sym (taken_short k left n t (leb-false 64 left ea) (leb-true 2 left eb)))
      go false false ea eb ih =
          sym (ap (greatest_octets g) (taken_too_short k left n t (leb-false 2 left eb)) ∙ greatest_none g)
