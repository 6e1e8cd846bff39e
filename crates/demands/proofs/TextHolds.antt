-- Request One holds: from the laws of the grammar, of the reader and of the writer of texts.
use mathlib.Core.Path.{◌≡◌, refl, sym, ap, ◌∙◌}
use mathlib.Core.Bool.{true≢false}
use mathlib.Core.List.{List, [], ◌∷◌, ◌++◌}
use mathlib.Core.Logic.{◌↔◌, inl, inr}
use Prim.Native.Nat.{ℕ, ◌≤◌, ◌<◌}
use borrow.Author.Tests.{le-leb, lt-leb}
use lib.ListN.{length, drop, drop_of_length-le}
use Rattle.name.specs.Wire.{Reading}
use Rattle.std.specs.Prelude.{Ok, Err}
use Rattle.text.specs.declared.TextRefusal.TheVariants.{NoRoom, NotAText}
use Rattle.space.specs.Octets.{overlay}
use Rattle.name.specs.WellFormed.{WellFormed}
use Rattle.name.specs.Wire.{reading_of}
use Rattle.name.specs.Labels.{wire, split, labels_of}
use Rattle.space.specs.Fold.{folded}
use Rattle.name.specs.Fold.{fold_of}
use Rattle.name.specs.Answer.{answer, refusal, fitted, refuse_broken}
use Rattle.name.proofs.Answers.{answer_injective, whole_passed}
use Rattle.name.proofs.Folding.{folded_idempotent, folded_octets, folded_whole, folded_labels_lem}
use Rattle.order.specs.Order.{folded_labels}
use Rattle.key.proofs.KeyLength.{largest, largest_formed}
use Rattle.text.specs.declared.TextRead.{TextRead}
use Rattle.text.specs.Grammar.{SpellsLabel, SpellsLabels, SpellsName, HasText, IsText, Longest}
use Rattle.text.specs.WriteText.{label_text, labels_text, text_of, write_text_of}
use Rattle.text.specs.ReadText.{read_text_of}
use Rattle.text.specs.Reads.{Reads}
use Rattle.text.proofs.TextLength.{text_at_most_1004}
use Rattle.text.proofs.TextNumbers.{said_injective}
use Rattle.text.proofs.Texts.{has_text_answered, answered_has_text, refused_longest, answered_or_refused, AnsweredOrRefused}
use Rattle.text.proofs.Texts.{text_one_name, refused_no_text, no_text_refused, text_final_dot, read_written, written_unique}
use Rattle.demands.specs.Lines.{ReadLines}
use Rattle.demands.specs.Text.{Leaves, Text}
use Rattle.demands.proofs.Lines.{name_lines, read_lines}
use Rattle.demands.proofs.TextCharacters.{character_spelled, octet_left, octet_backslashed, octet_digits}

-- ---- the grammar

labels_spelled : (l : List ℕ) (ls : List (List ℕ)) (t : List ℕ)
    → SpellsName (l ∷ ls) t ↔ (c : List ℕ) × (s : List ℕ) × SpellsLabel l c × SpellsLabels ls s × (t ≡ c ++ 46 ∷ s)
labels_spelled l ls t = (λ h. h, λ h. h)

-- ---- the reader

text_accepted : (name t : List ℕ) → read_text_of t ≡ answer name ↔ HasText name t
text_accepted name t = (answered_has_text t name, has_text_answered name t)

text_lines : (t : List ℕ) (room : ℕ) → ReadLines (fitted room (read_text_of t)) 14 IsText t room (read_text_of t)
text_lines t room =
    read_lines 14 IsText read_text_of (λ s a e. record { name = a; has = answered_has_text s a e })
    (λ s p e. refused_no_text s (p ∷ []) 14 e)
    refused_longest t room (answered_or_refused t)

text_place : (t : List ℕ) (p : ℕ) → read_text_of t ≡ refusal 14 (p ∷ []) ↔ (IsText t → ⊥) × Longest t p
text_place t p = (λ e. (refused_no_text t (p ∷ []) 14 e, refused_longest t p e), λ h. no_text_refused t p h.0 h.1)

final_dot : (t : List ℕ) (c : ℕ) → (c ≡ 46 → ⊥) → (p : ℕ) × (read_text_of (t ++ c ∷ []) ≡ refusal 14 (p ∷ []))
final_dot t c no_dot = go (answered_or_refused (t ++ c ∷ []))
  where
    go : AnsweredOrRefused (t ++ c ∷ []) → (p : ℕ) × (read_text_of (t ++ c ∷ []) ≡ refusal 14 (p ∷ []))
    go (inl h) = absurd (no_dot (text_final_dot t c (record { name = h.0; has = answered_has_text (t ++ c ∷ []) h.0 h.1 })))
    go (inr h) = h

-- ---- the writer

text_answer : (s : List ℕ) → reading_of s ≡ Ok tt → write_text_of s ≡ answer (text_of (folded_labels s))
text_answer s e = rw e

answered_whole : (s t : List ℕ) → write_text_of s ≡ answer t → reading_of s ≡ Ok tt
answered_whole s t e = go (reading_of s) refl e
  where
    go : (r : Reading) → reading_of s ≡ r → refuse_broken r 4 (answer (text_of (folded_labels s))) ≡ answer t → reading_of s ≡ Ok tt
    go (Ok _) h i = h
    go (Err f) h i = absurd (true≢false (cc))

one_text : (s t : List ℕ) → WellFormed s → WellFormed t → write_text_of s ≡ write_text_of t ↔ folded s ≡ folded t
one_text s t v w = (
  λ e. written_unique s t v.octets v.whole w.octets w.whole
      (answer_injective (sym (text_answer s v.whole) ∙ e ∙ text_answer t w.whole)),
  λ e. text_answer s v.whole
      ∙ ap (λ (ls : List (List ℕ)). answer (text_of ls)) (sym (folded_labels_lem s v.whole) ∙ ap labels_of e ∙ folded_labels_lem t w.whole)
      ∙ sym (text_answer t w.whole),
)

folded_text : (s f : List ℕ) → WellFormed s → fold_of s ≡ answer f → write_text_of f ≡ write_text_of s
folded_text s f v e =
    let d : folded s ≡ f = answer_injective (sym (whole_passed (answer (folded s)) s 4 v.whole) ∙ e) in
    rw (← d)
    ((one_text (folded s) s (record { octets = folded_octets s v.octets; whole = folded_whole s v.whole }) v).1 (folded_idempotent s))

read_back : (s t : List ℕ) → WellFormed s → write_text_of s ≡ answer t → read_text_of t ≡ answer (folded s)
read_back s t v e = rw (← answer_injective (sym (text_answer s v.whole) ∙ e)) (read_written s v.octets v.whole)

text_most : (s t : List ℕ) → write_text_of s ≡ answer t → length t ≤ 1004
text_most s t e =
    let w = answered_whole s t e in
    rw (← answer_injective (sym (text_answer s w) ∙ e)) (text_at_most_1004 s w)

largest_text : length (text_of (folded_labels (wire largest))) ≡ 1004
unfolding split label_text labels_text
largest_text = refl

-- ---- the place

module _ (t : List ℕ) (at : ℕ) (before : List ℕ) (r : TextRead) (after : List ℕ) (h : Reads t at before r after) where
  module _ (a : List ℕ) (e : read_text_of (drop at t) ≡ answer a) where
    text_answered : length a ≤ length before → Leaves r after (Ok (length a)) (length t) (overlay a before)
    text_answered room =
        let l = le-leb (length a) (length before) room in
        let o : r.outcome ≡ (Ok (length a)) = said_injective r.outcome (Ok (length a)) (h.fills.says ∙ rw (e, l)) in
        (o, h.place ∙ rw o, h.fills.space ∙ rw (e, l))

    text_no_room : length before < length a → Leaves r after (Err NoRoom) at before
    text_no_room small =
        let l = lt-leb (length a) (length before) small in
        let o : r.outcome ≡ (Err NoRoom) = said_injective r.outcome (Err NoRoom) (h.fills.says ∙ rw (e, l)) in
        (o, h.place ∙ rw o, h.fills.space ∙ rw (e, l))

  text_refused : (p : ℕ) → read_text_of (drop at t) ≡ refusal 14 (p ∷ []) → Leaves r after (Err (NotAText p)) at before
  text_refused p e =
      let o : r.outcome ≡ (Err (NotAText p)) = said_injective r.outcome (Err (NotAText p)) (h.fills.says ∙ rw e) in
      (o, h.place ∙ rw o, h.fills.space ∙ rw e)

past_end : (t : List ℕ) (at : ℕ) → length t ≤ at → (drop at t ≡ []) × (read_text_of (drop at t) ≡ refusal 14 (0 ∷ []))
past_end t at h = let e : drop at t ≡ [] = drop_of_length-le t h in (e, rw e)

pub text : Text
text =
    record {
      character = character_spelled;
      labels = labels_spelled;
      root = λ t. (λ h. h, λ h. h);
      accepts = text_accepted;
      letter_case = text_one_name;
      read = text_lines;
      place = text_place;
      final_dot = final_dot;
      write = λ name room. name_lines name room (text_of (folded_labels name));
      left = octet_left;
      backslashed = octet_backslashed;
      digits = octet_digits;
      one_text = one_text;
      folded_text = folded_text;
      read_back = read_back;
      most = text_most;
      text_of_1004 = (
        wire largest,
        text_of (folded_labels (wire largest)),
        largest_formed,
        text_answer (wire largest) largest_formed.whole,
        largest_text,
      );
      answered = λ t at before r after a h e room. text_answered t at before r after h a e room;
      no_room = λ t at before r after a h e small. text_no_room t at before r after h a e small;
      refused = λ t at before r after p h e. text_refused t at before r after h p e;
      past_end = past_end;
      reader = λ was is before after o m. (m.text, m.reads);
    }
