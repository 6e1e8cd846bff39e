-- Texts written at once: a text has no more characters than the widest (`text_widest`), and one that was tried without escapes is the text,
-- or shorter, and then the text is written over it.
use mathlib.Core.Path.{◌≡◌, refl, sym, ap, ◌∙◌}
use mathlib.Core.List.{List}
use mathlib.Core.Bool.{Bool, true}
use mathlib.Core.Logic.{◌⊎◌, ⊎_elim}
use Prim.Native.Nat.{ℕ, ◌-◌, ◌≤◌, ◌<◌}
use native.Mathlib.Omega.{arith}
use lib.ListN.{length, drop, get_or, get_or-append}
use Rattle.std.specs.Prelude.{Ok}
use Rattle.name.specs.Wire.{reading_of}
use Rattle.name.specs.Labels.{labels_of}
use Rattle.name.specs.Answer.{Result, answer, Fills}
use Rattle.name.proofs.Answers.{fills_answer, whole_passed}
use Rattle.name.proofs.Folding.{folded_is_wire, folded_length, folded_sizes}
use Rattle.name.proofs.Labels.{label_sizes}
use Rattle.space.specs.Octets.{overlay}
use Rattle.space.specs.Private.Written.{Written}
use Rattle.space.proofs.Written.{overlay_written, written_over, written_front}
use Rattle.order.specs.Order.{folded_labels}
use Rattle.text.specs.WriteText.{labels_text, text_of}
use Rattle.text.proofs.TextLength.{labels_text_most, labels_wire_most}
use Rattle.text.proofs.TextSteps.{text_labels}
use Rattle.totext.specs.Private.AtOnce.{widest, AtOnce}
use Rattle.totext.specs.Private.Shown.{joined, shown, Each}
use Rattle.totext.proofs.ShownBlocks.{each_front}
use Rattle.totext.proofs.Joined.{joined_length, joined_text, joined_shown}

-- nothing is written
pub at_once_none : (s d : List ℕ) → AtOnce s d 0 d
at_once_none s d = record { text = λ h. absurd (omega arith); none = λ z. refl }

-- what is written next is written to the space as it was
pub at_once_next : {s d : List ℕ} {n : ℕ} {a : List ℕ} → AtOnce s d n a → n ≤ 0
    → {result : Result (List ℕ)} {words : Result ℕ} {last : List ℕ} → Fills result a words last → Fills result d words last
at_once_next o z f = rw (o.none (omega arith)) at f

-- what is written over is forgotten
overlay_over : (k l d e f : List ℕ) → e ≡ overlay k d → f ≡ overlay l e → length k ≤ length l → length l ≤ length d
    → length e ≡ length d → f ≡ overlay l d
overlay_over k l d e f is over less room size =
    written_front
    (written_over (overlay_written {k = k} is refl (omega arith)) (overlay_written {k = l} over refl (omega arith)) (omega arith)
    (omega arith))
    (omega arith)

module _ (s : List ℕ) (e : reading_of s ≡ Ok tt) (more : 1 < length s) where
  is_text : text_of (folded_labels s) ≡ labels_text (folded_labels s)
  is_text = text_labels s e (λ one. omega arith)

  pub text_widest : length (text_of (folded_labels s)) ≤ widest (length s)
  text_widest =
      omega (
        arith,
        ap length is_text,
        labels_text_most (folded_labels s),
        labels_wire_most (folded_labels s) (folded_sizes (labels_of s) (label_sizes s e)),
        ap length (folded_is_wire s e),
        folded_length s,
      )

  module _ (d : List ℕ) (room : widest (length s) ≤ length d) where
    pub at_once_text : {n : ℕ} → n ≡ length (text_of (folded_labels s)) → {a : List ℕ} → a ≡ overlay (text_of (folded_labels s)) d
        → AtOnce s d n a
    at_once_text size is =
        record {
          text = λ h.
              fills_answer (whole_passed (answer (text_of (folded_labels s))) s 4 e) size (omega (arith, text_widest)) is;
          none = λ z. absurd (omega (arith, joined_text s e, ap length is_text));
        }

    -- the labels with their dots are written
    module _ {a : List ℕ} (is : a ≡ overlay (joined (folded_labels s)) d) where
      front : Written d 0 0 (joined (folded_labels s)) (length s - 1) (length s - 1) a
      front = overlay_written is (omega (arith, joined_length s e)) (omega arith)

      shown_there : Each a s 0 (length s - 1) true → (i : ℕ) → i < length (joined (folded_labels s))
          → shown (get_or (joined (folded_labels s)) i 0) ≡ true
      shown_there c i h =
          let j : List ℕ = joined (folded_labels s) in
          rw (← get_or-append j (drop (length j) d) 0 i h, ← is) (each_front c i (omega (arith, joined_length s e))).0

      pub at_once_plain : {r : Bool} → Each a s 0 (length s - 1) r → r ≡ true → AtOnce s d (length s - 1) a
      at_once_plain c y =
          let z = rw y at c in
          let t : text_of (folded_labels s) ≡ joined (folded_labels s) =
          is_text ∙ joined_shown s e (shown_there z) (λ i h. (each_front z i h).1) in
          at_once_text (omega (arith, ap length t, joined_length s e)) (is ∙ ap (λ (x : List ℕ). overlay x d) (sym t))

    -- nothing is written yet, or the labels with their dots are
    module _ {a : List ℕ} (tried : (a ≡ d) ⊎ (a ≡ overlay (joined (folded_labels s)) d)) where
      pub tried_length : length a ≡ length d
      tried_length = ⊎_elim (λ k. ap length k) (λ k. (front k).size) tried

      pub at_once_over : {n : ℕ} → n ≡ length (text_of (folded_labels s)) → {b : List ℕ} → b ≡ overlay (text_of (folded_labels s)) a
          → AtOnce s d n b
      at_once_over size {b} over =
          at_once_text size
          (⊎_elim (λ k. over ∙ ap (overlay (text_of (folded_labels s))) k)
          (λ k. overlay_over (joined (folded_labels s)) (text_of (folded_labels s)) d a b k over
          (omega (arith, joined_length s e, joined_text s e, ap length is_text)) (omega (arith, text_widest)) tried_length) tried)
