-- The characters of octets in a space: those of one octet as they are stored, and those of a label's octets, written from the first.
use mathlib.Core.Path.{◌≡◌, refl, sym, ap, ◌∙◌}
use mathlib.Core.List.{List, [], ◌∷◌}
use Prim.Native.Nat.{ℕ, ◌+◌, ◌/◌, ◌%◌, ◌≤◌, ◌<◌}
use native.Mathlib.Omega.{arith}
use lib.ListN.{length, drop, get_or, set}
use Rattle.space.specs.Fold.{lower_of}
use Rattle.space.specs.Private.Put.{folded_part}
use Rattle.space.specs.Private.Written.{Written}
use Rattle.space.proofs.Written.{written_octet, written_stored, Partly, partly_size, partly_more, partly_all}
use Rattle.text.specs.Characters.{backslash}
use Rattle.text.specs.WriteText.{number_of, characters_of, label_text}
use Rattle.text.proofs.Characters.{width_alone, width_behind, width_digits}
use Rattle.text.proofs.TextSteps.{octets_step, octets_none, octets_shorter}

-- ---- one octet

module _ (d : List ℕ) (at o : ℕ) (room : at + length (characters_of o) ≤ length d) {w : ℕ} (width : w ≡ length (characters_of o)) where
  pub octet_alone : w ≡ 1 → Written d at at (characters_of o) (at + 1) (at + 1) (set d at o)
  octet_alone e = rw (width_alone o (sym width ∙ e)) (written_octet d at o refl (omega arith))

  pub octet_behind : w ≡ 2 → Written d at at (characters_of o) (at + 2) (at + 2) (set (set d at backslash) (at + 1) o)
  octet_behind e = rw (width_behind o (sym width ∙ e)) (written_stored d at (backslash ∷ o ∷ []) refl (omega arith))

  module _ (f : w ≡ 1 → ⊥) (g : w ≡ 2 → ⊥) where
    octet_number : characters_of o ≡ number_of o
    octet_number = width_digits o (λ e. f (width ∙ e)) (λ e. g (width ∙ e))

    pub digits_room : at + 4 ≤ length d
    digits_room = omega (arith, ap length octet_number)

    pub octet_digits : Written d at at (characters_of o) (at + 4) (at + 4)
        (set (set (set (set d at backslash) (at + 1) (48 + o / 10 / 10)) (at + 2) (48 + o / 10 % 10)) (at + 3) (48 + o % 10))
    octet_digits = rw octet_number (written_stored d at (number_of o) refl digits_room)

-- ---- octets of a name

-- the octets before the i-th of n are written from the index `start` on
pub record Putting (before : List ℕ) (start : ℕ) (s : List ℕ) (from n : ℕ) (after : List ℕ) (at i : ℕ) : Type 0 where
  pub has : from + n ≤ length s
  pub partly : Partly before start (label_text (folded_part s from n)) (label_text (drop i (folded_part s from n))) at at after

module _ {d : List ℕ} {start : ℕ} {s : List ℕ} {from n : ℕ} {e : List ℕ} {at i : ℕ} (p : Putting d start s from n e at i) where
  pub putting_room : i < n → at + length (characters_of (lower_of (get_or s (from + i) 0))) ≤ length e
  putting_room more = omega (arith, partly_size p.partly, octets_shorter s from n p.has i more)

  pub putting_more : i < n → {f : List ℕ} {to : ℕ} → Written e at at (characters_of (lower_of (get_or s (from + i) 0))) to to f
      → Putting d start s from n f to (i + 1)
  putting_more more w =
      record {
        has = p.has;
        partly =
            partly_more p.partly (characters_of (lower_of (get_or s (from + i) 0))) (octets_step s from n p.has i more) w (omega arith);
      }

  pub putting_all : n ≤ i → Written d start start (label_text (folded_part s from n)) at at e
  putting_all h = partly_all p.partly (octets_none s from n p.has i h)
