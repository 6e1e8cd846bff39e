-- A name's text written label by label: what holds at the place of a label (`Passing`), that what is of no use behind
-- a label ends before the text does (`passing_more`), and the root.
use mathlib.Core.Path.{◌≡◌, refl, sym, ap, ◌∙◌}
use mathlib.Core.List.{List, [], ◌∷◌, ◌++◌}
use Prim.Native.Nat.{ℕ, ◌+◌, ◌*◌, ◌≤◌, ◌<◌}
use native.Mathlib.Omega.{arith}
use lib.ListN.{length, drop, get_or, set}
use lib.Seq.{append_snoc}
use Rattle.std.specs.Prelude.{Ok}
use Rattle.space.specs.Octets.{overlay}
use Rattle.space.specs.Private.Put.{folded_part}
use Rattle.space.specs.Private.Written.{Written}
use Rattle.space.proofs.Written.{written_wider, written_behind, written_octet, written_front}
use Rattle.space.proofs.Written.{Partly, partly_none, partly_size, partly_more, partly_all}
use Rattle.space.proofs.Putting.{part_length}
use Rattle.name.specs.Wire.{reading_of}
use Rattle.name.specs.Private.Standing.{Standing}
use Rattle.name.proofs.LabelSteps.{stands}
use Rattle.order.specs.Order.{folded_labels}
use Rattle.text.specs.Characters.{dot}
use Rattle.text.specs.WriteText.{label_text, labels_text, text_of}
use Rattle.text.proofs.TextLength.{label_text_least, label_text_most}
use Rattle.text.proofs.TextSteps.{labels_none, labels_step, labels_shorter, label_here, label_within, label_next, text_root, text_labels}

-- ---- a label

module _ (s : List ℕ) (p : ℕ) (st : Standing s p 0) (more : p + 1 < length s) where
  -- it has 1 to 63 octets
  pub label_size_lem : (1 ≤ get_or s p 0) × (get_or s p 0 ≤ 63)
  label_size_lem = let h = label_here s p st more in (omega (arith, h.octet, h.some), omega (arith, h.octet, h.small))

  -- and at most four characters for each
  pub label_characters : (get_or s p 0 ≤ length (label_text (folded_part s (p + 1) (get_or s p 0))))
      × (length (label_text (folded_part s (p + 1) (get_or s p 0))) ≤ 4 * get_or s p 0)
  label_characters =
      let l : List ℕ = folded_part s (p + 1) (get_or s p 0) in
      let n : length l ≡ get_or s p 0 = part_length s (p + 1) (get_or s p 0) (omega (arith, label_within s p st more)) in
      (omega (arith, n, label_text_least l), omega (arith, n, label_text_most l))

-- ---- a name

-- the labels before the place p are written, to the index `at`, and what stands behind them up to the text's end is of no use
pub record Passing (s before : List ℕ) (p at : ℕ) (after : List ℕ) : Type 0 where
  pub standing : Standing s p 0
  pub partly : Partly before 0 (text_of (folded_labels s)) (labels_text (folded_labels (drop p s))) at (length (text_of (folded_labels s)))
      after

pub passing_none : (s d : List ℕ) → reading_of s ≡ Ok tt → 1 < length s → length (text_of (folded_labels s)) ≤ length d → Passing s d 0 0 d
passing_none s d e more room =
    let t : text_of (folded_labels s) ≡ labels_text (folded_labels s) = text_labels s e (λ one. omega arith) in
    record {
      standing = stands s e;
      partly =
          rw t (partly_none d 0 (labels_text (folded_labels s)) (omega (arith, ap length t)) (omega arith) (omega (arith, ap length t)));
    }

module _ {s d : List ℕ} {p at : ℕ} {a : List ℕ} (w : Passing s d p at a) where
  pub passing_all : length s ≤ p + 1 → (at ≡ length (text_of (folded_labels s))) × (a ≡ overlay (text_of (folded_labels s)) d)
  passing_all h =
      let v = partly_all w.partly (labels_none s p w.standing h) in
      (omega (arith, v.ends), written_front v (omega (arith, v.ends)))

  -- a label stands at the place p
  module _ (more : p + 1 < length s) where
    pub passing_room : at + length (label_text (folded_part s (p + 1) (get_or s p 0))) < length (text_of (folded_labels s))
    passing_room = omega (arith, partly_size w.partly, labels_shorter s p w.standing more)

    pub passing_next : {end to : ℕ} {b : List ℕ} → Written a at at (label_text (folded_part s (p + 1) (get_or s p 0))) end to b
        → to ≤ length (text_of (folded_labels s)) → Passing s d (p + 1 + get_or s p 0) (end + 1) (set b end dot)
    passing_next {end} {to} {b} k fits =
        let len : ℕ = length (text_of (folded_labels s)) in
        let room : end + 1 ≤ len = omega (arith, passing_room) in
        let l : List ℕ = label_text (folded_part s (p + 1) (get_or s p 0)) in
        record {
          standing = label_next s p w.standing more;
          partly =
              partly_more w.partly (l ++ dot ∷ [])
              (labels_step s p w.standing more ∙ sym (append_snoc l dot (labels_text (folded_labels (drop (p + 1 + get_or s p 0) s)))))
              (written_behind k (written_wider (written_octet b end dot refl (omega arith)) (omega arith) room (omega arith)) fits)
              (omega arith);
        }

    -- behind a label that is not the last stand its dot, one character at least, and another dot
    pub passing_more : p + 1 + get_or s p 0 + 1 < length s
        → at + length (label_text (folded_part s (p + 1) (get_or s p 0))) + 3 ≤ length (text_of (folded_labels s))
    passing_more again =
        let next : Standing s (p + 1 + get_or s p 0) 0 = label_next s p w.standing more in
        omega (
          arith,
          partly_size w.partly,
          labels_shorter s p w.standing more,
          labels_shorter s (p + 1 + get_or s p 0) next again,
          label_size_lem s (p + 1 + get_or s p 0) next again,
          label_characters s (p + 1 + get_or s p 0) next again,
        )

-- ---- the root

module _ (s d : List ℕ) (e : reading_of s ≡ Ok tt) (one : length s ≡ 1) (room : length (text_of (folded_labels s)) ≤ length d) where
  pub root_room : 0 < length d
  root_room = omega (arith, ap length (text_root s e one))

  pub root_put : set d 0 dot ≡ overlay (text_of (folded_labels s)) d
  root_put = rw (text_root s e one) (written_front (written_octet d 0 dot refl root_room) (omega arith))
