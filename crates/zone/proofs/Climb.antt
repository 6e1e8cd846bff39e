-- The steps to the successor raise the last symbol of the canonical sequence that can be raised (`climb_law`, `deeper_law`).
use mathlib.Core.Path.{◌≡◌, refl, sym, ap, ◌∙◌}
use mathlib.Core.List.{List, [], ◌∷◌, ◌++◌}
use mathlib.Core.Option.{Option, none, some}
use mathlib.Core.Bool.{Bool, true, false, cond, ◌&&◌}
use Prim.Native.Nat.{ℕ, zero, suc, ◌+◌, ◌-◌, ◌≤◌, ◌<◌}
use native.Mathlib.Nat.{zero-add}
use native.Mathlib.Omega.{arith}
use borrow.Author.Tests.{ltb-true, ltb-false, leb-true, leb-false}
use lib.ListN.{length}
use lib.Dec.{ltb, leb}
use Rattle.order.proofs.Room.{room_at, room_within}
use Rattle.order.specs.Sequence.{closed, symbols, sequence}
use Rattle.order.specs.Place.{at, within, room}
use Rattle.order.proofs.Sequences.{length_closed}
use Rattle.order.proofs.Members.{Labels}
use Rattle.zone.specs.Alphabet.{from}
use Rattle.zone.specs.Ring.{prefer, closing, or_else, raise, successor}
use Rattle.zone.specs.Zone.{size}
use Rattle.zone.specs.Steps.{alone, or_climb, least, raised, climb, deeper}
use Rattle.zone.proofs.Bridge.{sequence_size, labels_valid}
use Rattle.zone.proofs.Walk.{walk, after, Front, valid_front, raise_last, raise_after, raise_last_append}
use Rattle.zone.proofs.Spelling.{sequence_cons, walk_sequence}

-- ---- room

-- the first octet of a label is like any of 63
pub room_first : (n d : ℕ) → room n (at (suc d)) ≡ room n (within d 63)
room_first zero d = refl
room_first (suc zero) d = refl
room_first (suc (suc n)) d = refl

room_none : (n d : ℕ) → (2 ≤ n → 1 ≤ d → ⊥) → room n (at d) ≡ false
room_none zero d h = refl
room_none (suc zero) d h = refl
room_none (suc (suc n)) zero h = refl
room_none (suc (suc n)) (suc d) h = absurd (h (omega arith) (omega arith))

-- a label closed
abbrev shut : Option (List ℕ) → Option (List ℕ)
shut (some l) = some (closed l [])
shut none = none

module _ (allowed : ℕ → Bool) where
  -- ---- the leftmost label

  label_grows : (l : List ℕ) (m d r : ℕ) → from allowed 0 ≡ some (least allowed) → length l < r → 1 ≤ m
      → raise_last allowed m (within d r) (closed l []) ≡ some (closed (l ++ least allowed ∷ []) [])
  unfolding raise_last closed
  label_grows l m d zero e h k = absurd (omega arith)
  label_grows [] m d (suc r) e h k = rw (zero-add m, room_within (suc m) d (suc r) (omega arith) (omega arith), e)
  label_grows (o ∷ l) m d (suc r) e h k = rw (label_grows l m d r e (omega arith) k)

  label_raised : (l : List ℕ) (m d r : ℕ) → length l ≤ r → (length l < r → 1 ≤ m → ⊥)
      → raise_last allowed m (within d r) (closed l []) ≡ shut (raised allowed l)
  unfolding raise_last closed raised
  label_raised [] zero d r h k = refl
  label_raised [] (suc m) d zero h k = rw (zero-add (suc m))
  label_raised [] (suc m) d (suc r) h k = absurd (k (omega arith) (omega arith))
  label_raised (o ∷ l) m d zero h k = absurd (omega arith)
  label_raised (o ∷ l) m d (suc r) h k =
      rw (
        label_raised l m d r (omega arith) (λ a b. k (omega arith) b),
        room_within (suc (length (closed l []) + m)) d (suc r) (omega (arith, length_closed l [])) (omega arith),
      )
      (go (raised allowed l) (from allowed (suc o)))
    where
      go : (m : Option (List ℕ)) (p : Option ℕ) → prefer (suc o) (shut m) (closing true p) ≡ shut (prefer o m (alone p))
      go (some t) p = refl
      go none (some p) = refl
      go none none = refl

  label_first : (l : List ℕ) (m d : ℕ) → 1 ≤ length l
      → raise_last allowed m (at (suc d)) (closed l []) ≡ raise_last allowed m (within d 63) (closed l [])
  unfolding raise_last closed
  label_first [] m d h = absurd (omega arith)
  label_first (o ∷ l) m d h = rw (room_first (suc (length (closed l []) + m)) d)

  -- ---- the climb

  climb_up : (ls up : List (List ℕ)) (b : Option (List ℕ)) → or_else b [] ≡ sequence up → (r : Option (List ℕ))
      → or_else (after (sequence ls) (shut r) b) [] ≡ sequence (or_climb r ls up)
  climb_up ls up b e (some t) = sym (sequence_cons t ls)
  climb_up ls up b e none = e

  module _ (has-least : from allowed 0 ≡ some (least allowed)) (n : ℕ) where
    climb_law : (ls : List (List ℕ)) (d : ℕ) → Labels allowed ls → length ls ≤ d → size ls ≤ n
        → or_else (raise_last allowed (n - size ls) (at d) (sequence ls)) [] ≡ sequence (climb allowed n ls)
    unfolding climb raise_last symbols
    climb_law [] d h few fits = refl
    climb_law (l ∷ ls) d h few fits =
        rw (
          sequence_cons l ls,
          raise_last_append allowed (sequence ls) (closed l []) m (at d),
          walk_sequence allowed ls d h.3 (omega arith),
          e,
          label_first l m (d - suc (length ls)) h.0,
          g,
        )
        (go (ltb (length l) 63) (leb (size (l ∷ ls) + 1) n) refl refl (climb_law ls d h.3 (omega arith) (omega arith)))
      where
        m : ℕ
        m = n - size (l ∷ ls)

        e : d - length ls ≡ suc (d - suc (length ls))
        e = omega arith

        g : length (closed l []) + m ≡ n - size ls
        g = omega (arith, length_closed l [])

        up : Option (List ℕ)
        up = raise_last allowed (n - size ls) (at d) (sequence ls)

        go : (a b : Bool) → ltb (length l) 63 ≡ a → leb (size (l ∷ ls) + 1) n ≡ b → or_else up [] ≡ sequence (climb allowed n ls)
            → or_else (after (sequence ls) (raise_last allowed m (within (d - suc (length ls)) 63) (closed l [])) up) []
            ≡ sequence (cond (a && b) ((l ++ least allowed ∷ []) ∷ ls) (or_climb (raised allowed l) ls (climb allowed n ls)))
        go true true ea eb ih =
            rw (label_grows l m (d - suc (length ls)) 63 has-least (ltb-true (length l) 63 ea)
            (omega (arith, leb-true (size (l ∷ ls) + 1) n eb)))
            (sym (sequence_cons (l ++ least allowed ∷ []) ls))
        go true false ea eb ih =
            rw (label_raised l m (d - suc (length ls)) 63 h.1 (λ x y. omega (arith, leb-false (size (l ∷ ls) + 1) n eb)))
            (climb_up ls (climb allowed n ls) up ih (raised allowed l))
        go false b ea eb ih =
            rw (label_raised l m (d - suc (length ls)) 63 h.1 (λ x y. omega (arith, ltb-false (length l) 63 ea)))
            (climb_up ls (climb allowed n ls) up ih (raised allowed l))

    -- ---- the successor of at most d labels

    pub deeper_law : (ls : List (List ℕ)) (d : ℕ) → Labels allowed ls → length ls ≤ d → size ls ≤ n
        → successor allowed n (at d) (sequence ls) ≡ sequence (deeper allowed n d ls)
    unfolding successor deeper raise closed
    deeper_law ls d h few fits =
        rw (found, walk_sequence allowed ls d h few) (go (ltb (length ls) d) (leb (size ls + 2) n) refl refl (climb_law ls d h few fits))
      where
        m : ℕ
        m = n - size ls

        e : n ≡ length (sequence ls) + m
        e = omega (arith, sequence_size ls)

        front : Front allowed (at d) (sequence ls) m
        front =
            valid_front allowed (sequence ls) m (at d)
            (labels_valid allowed (length (sequence ls) + m) d ls h few (omega (arith, sequence_size ls)))

        found : raise allowed n (at d) (sequence ls)
            ≡ after (sequence ls) (raise allowed m (walk (at d) (sequence ls)) []) (raise_last allowed m (at d) (sequence ls))
        found = ap (λ (k : ℕ). raise allowed k (at d) (sequence ls)) e ∙ raise_after allowed (sequence ls) m (at d) front

        go : (a b : Bool) → ltb (length ls) d ≡ a → leb (size ls + 2) n ≡ b
            → or_else (raise_last allowed m (at d) (sequence ls)) [] ≡ sequence (climb allowed n ls)
            → or_else (after (sequence ls) (raise allowed m (at (d - length ls)) []) (raise_last allowed m (at d) (sequence ls))) []
            ≡ sequence (cond (a && b) ((least allowed ∷ []) ∷ ls) (climb allowed n ls))
        go true true ea eb ih =
            rw (
              room_at m (d - length ls) (omega (arith, leb-true (size ls + 2) n eb)) (omega (arith, ltb-true (length ls) d ea)),
              has-least,
            )
            (sym (sequence_cons (least allowed ∷ []) ls))
        go true false ea eb ih = rw (room_none m (d - length ls) (λ x y. omega (arith, leb-false (size ls + 2) n eb))) ih
        go false b ea eb ih = rw (room_none m (d - length ls) (λ x y. omega (arith, ltb-false (length ls) d ea))) ih
