-- A name's text written from the table, where the space has room for the widest: what holds at the place of a label (`Roomy`), that a label
-- and what is of no use behind it have room there, and that this is written over.
use mathlib.Core.List.{List}
use Prim.Native.Nat.{ℕ, ◌+◌, ◌*◌, ◌≤◌, ◌<◌}
use mathlib.Core.Path.{◌≡◌}
use native.Mathlib.Omega.{arith}
use lib.ListN.{length, get_or, set}
use Rattle.std.specs.Prelude.{Ok}
use Rattle.name.specs.Wire.{reading_of}
use Rattle.space.specs.Private.Put.{folded_part}
use Rattle.space.specs.Private.Written.{Written}
use Rattle.space.proofs.Written.{written_wider}
use Rattle.order.specs.Order.{folded_labels}
use Rattle.text.specs.Characters.{dot}
use Rattle.text.specs.WriteText.{label_text, text_of}
use Rattle.text.proofs.TextSteps.{label_within}
use Rattle.totext.specs.Private.AtOnce.{widest}
use Rattle.totext.proofs.AtOnce.{text_widest}
use Rattle.totext.proofs.PutTexts.{Passing, passing_none, passing_room, passing_more, passing_next, label_size_lem, label_characters}

-- the labels before the place p are written, to the index `at`, and these have no more characters than the widest of their octets
pub record Roomy (s before : List ℕ) (p at : ℕ) (after : List ℕ) : Type 0 where
  pub passing : Passing s before p at after
  pub few : 64 * at ≤ 253 * p
  pub room : widest (length s) ≤ length before

pub roomy_none : (s d : List ℕ) → reading_of s ≡ Ok tt → 1 < length s → widest (length s) ≤ length d → Roomy s d 0 0 d
roomy_none s d e more room =
    record { passing = passing_none s d e more (omega (arith, text_widest s e more)); few = omega arith; room = room }

-- a label stands at the place p
module _ {s d : List ℕ} {p at : ℕ} {a : List ℕ} (w : Roomy s d p at a) (more : p + 1 < length s) where
  -- it has room with four characters for each octet, and its dot
  pub roomy_last : at + 4 * get_or s p 0 + 1 ≤ length a
  roomy_last =
      let st = w.passing.standing in
      omega (arith, w.few, w.room, label_size_lem s p st more, label_within s p st more, w.passing.partly.written.size)

  module _ {end : ℕ} {b : List ℕ} where
    -- its dot is written over what is of no use behind the last label
    pub roomy_end : Written a at at (label_text (folded_part s (p + 1) (get_or s p 0))) end (end + 1) b
        → Written a at at (label_text (folded_part s (p + 1) (get_or s p 0))) end (length (text_of (folded_labels s))) b
    roomy_end v =
        written_wider v (omega arith) (omega (arith, v.ends, passing_room w.passing more))
        (omega (arith, w.passing.partly.written.room, w.passing.partly.written.size))

    pub roomy_next : Written a at at (label_text (folded_part s (p + 1) (get_or s p 0))) end (length (text_of (folded_labels s))) b
        → Roomy s d (p + 1 + get_or s p 0) (end + 1) (set b end dot)
    roomy_next v =
        let st = w.passing.standing in
        record {
          passing = passing_next w.passing more v (omega arith);
          few = omega (arith, w.few, v.ends, label_size_lem s p st more, label_characters s p st more);
          room = w.room;
        }

  -- another label stands behind it
  module _ (again : p + 1 + get_or s p 0 + 1 < length s) where
    pub roomy_more : at + 4 * get_or s p 0 + 3 ≤ length a
    roomy_more =
        omega (arith, w.few, w.room, label_size_lem s p w.passing.standing more, w.passing.partly.written.size)

    pub roomy_label : {end : ℕ} {b : List ℕ} → Written a at at (label_text (folded_part s (p + 1) (get_or s p 0))) end (end + 3) b
        → Written a at at (label_text (folded_part s (p + 1) (get_or s p 0))) end (length (text_of (folded_labels s))) b
    roomy_label v =
        written_wider v (omega arith) (omega (arith, v.ends, passing_more w.passing more again))
        (omega (arith, w.passing.partly.written.room, w.passing.partly.written.size))
