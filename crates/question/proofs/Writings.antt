-- Writing a question: what no question can hold is 13, and any other is written, so that reading gives it back (`question_read`).
use mathlib.Core.Path.{◌≡◌, refl, sym, ap, ◌∙◌}
use mathlib.Core.List.{List, [], ◌∷◌, ◌++◌, append_assoc}
use mathlib.Core.Bool.{true≢false}
use mathlib.Core.Logic.{◌⊎◌, inl, inr}
use Prim.Native.Nat.{ℕ, ◌+◌, ◌/◌, ◌%◌, ◌≤◌, ◌<◌}
use native.Mathlib.Decide.{dec_le}
use native.Mathlib.Omega.{arith}
use borrow.Author.Tests.{lt-ltb, le-ltb}
use lib.ListN.{length, set, length-append}
use Rattle.space.specs.Octets.{overlay}
use Rattle.space.specs.Private.Written.{Written}
use Rattle.space.specs.Private.Put.{put}
use Rattle.space.proofs.Written.{written_behind, written_stored, written_front}
use Rattle.space.proofs.Putting.{put_written}
use Rattle.name.specs.Answer.{answer, refusal, number, Fills}
use Rattle.name.proofs.Answers.{fills_no_room, fills_answer}
use Rattle.question.specs.Fields.{field}
use Rattle.question.specs.declared.Way.{Way}
use Rattle.std.specs.Prelude.{Option, Some, None, Ok, Err, Result as Outcome}
use Rattle.question.specs.declared.QuestionRefusal.TheVariants.{NoQuestion, NoRoom}
use Rattle.question.specs.Way.{octet_of, way_of}
use Rattle.question.specs.Question.{Question, asking, four_fields, question_octets, size, Askable, Held}
use Rattle.question.specs.declared.QuestionRefusal.{QuestionRefusal}
use Rattle.question.specs.Writing.{said, write_way, write_of}
use Rattle.question.proofs.Ways.{octet_way, way_octet}

pub question_size : (q : Question) → length (question_octets q) ≡ size q
question_size q =
    omega (
      arith,
      length-append q.apex (field 2 (q.limit ∷ []) ++ (field 3 q.name ++ field 4 (octet_of q.way ∷ []))),
      length-append q.name (field 4 (octet_of q.way ∷ [])),
    )

-- ---- a field, its head stored octet by octet

pub field_written : (d : List ℕ) (at tag : ℕ) (value : List ℕ) → at + 3 + length value ≤ length d → {e : List ℕ}
    → e ≡ put (set (set (set d at tag) (at + 1) (length value / 256)) (at + 2) (length value % 256)) (at + 3) value
    → Written d at at (field tag value) (at + 3 + length value) (at + 3 + length value) e
field_written d at tag value room is =
    let head = written_stored d at (tag ∷ length value / 256 ∷ length value % 256 ∷ []) refl (omega arith) in
    written_behind head (put_written _ (at + 3) value is refl (omega (arith, head.size))) (omega arith)

-- ---- the lines of the definition

module _ (apex : List ℕ) (limit : ℕ) (name : List ℕ) (octet : ℕ) where
  pub apex_too_long : 600 < length apex → write_of apex limit name octet ≡ refusal 13 []
  unfolding write_of
  apex_too_long h = rw (lt-ltb 600 (length apex) h)

  module _ (apex_fits : length apex ≤ 600) where
    pub limit_too_large : 255 < limit → write_of apex limit name octet ≡ refusal 13 []
    unfolding write_of
    limit_too_large h = rw (le-ltb 600 (length apex) apex_fits, lt-ltb 255 limit h)

    module _ (limit_fits : limit ≤ 255) where
      pub name_too_long : 600 < length name → write_of apex limit name octet ≡ refusal 13 []
      unfolding write_of
      name_too_long h = rw (le-ltb 600 (length apex) apex_fits, le-ltb 255 limit limit_fits, lt-ltb 600 (length name) h)

      -- all but the way is what a question can hold
      module _ (name_fits : length name ≤ 600) where
        past : write_of apex limit name octet ≡ write_way apex limit name (way_of octet)
        unfolding write_of
        past = rw (le-ltb 600 (length apex) apex_fits, le-ltb 255 limit limit_fits, le-ltb 600 (length name) name_fits)

        pub no_such_way : way_of octet ≡ None → write_of apex limit name octet ≡ refusal 13 []
        no_such_way h = past ∙ rw h

        pub way_written : {way : Way} → way_of octet ≡ Some way
            → write_of apex limit name octet ≡ answer (question_octets (asking apex limit name way))
        way_written h = past ∙ rw h

-- exactly what a question can hold is written
pub askable_written : (q : Question) → Askable q → write_of q.apex q.limit q.name (octet_of q.way) ≡ answer (question_octets q)
askable_written q a =
    way_written q.apex q.limit q.name (octet_of q.way) a.apex_fits a.limit_fits a.name_fits (octet_way q.way)

-- and exactly the others are refused
abbrev pub WrittenOrRefused : List ℕ → ℕ → List ℕ → ℕ → Type 0
WrittenOrRefused apex limit name octet =
    (Held apex limit name octet × (write_of apex limit name octet ≡ answer (four_fields apex limit name octet)))
    ⊎ ((Held apex limit name octet → ⊥) × (write_of apex limit name octet ≡ refusal 13 []))

pub written_or_refused : (apex : List ℕ) (limit : ℕ) (name : List ℕ) (octet : ℕ) → WrittenOrRefused apex limit name octet
written_or_refused apex limit name octet =
    go (dec_le (length apex) 600) (dec_le limit 255) (dec_le (length name) 600) (way_of octet) refl
  where
    go : Dec (length apex ≤ 600) → Dec (limit ≤ 255) → Dec (length name ≤ 600) → (m : Option Way) → way_of octet ≡ m
        → WrittenOrRefused apex limit name octet
    go (yes a) (yes l) (yes n) (Some way) e =
        let o = way_octet octet way e in
        inl (
          record { way = way; octet_is = o; fits = record { apex_fits = a; limit_fits = l; name_fits = n } },
          way_written apex limit name octet a l n e ∙ rw o,
        )
    go (yes a) (yes l) (yes n) None e =
        inr (λ h. true≢false (let k = rw h.octet_is at (octet_way h.way) in cc), no_such_way apex limit name octet a l n e)
    go (no a) dl dn m e = inr (λ h. a h.fits.apex_fits, apex_too_long apex limit name octet (omega arith))
    go (yes a) (no l) dn m e = inr (λ h. l h.fits.limit_fits, limit_too_large apex limit name octet a (omega arith))
    go (yes a) (yes l) (no n) m e = inr (λ h. n h.fits.name_fits, name_too_long apex limit name octet a l (omega arith))

-- ---- what the writer says is told by its number and its value

pub said_injective : (a b : Outcome ℕ QuestionRefusal) → said a ≡ said b → a ≡ b
said_injective (Ok n) (Ok m) e = let k : n ≡ m = cc in ap Ok k
said_injective (Ok n) (Err NoQuestion) e = absurd (true≢false (cc))
said_injective (Ok n) (Err NoRoom) e = absurd (true≢false (cc))
said_injective (Err NoQuestion) (Ok m) e = absurd (true≢false (cc))
said_injective (Err NoQuestion) (Err NoQuestion) e = refl
said_injective (Err NoQuestion) (Err NoRoom) e = absurd (omega (arith, ap number e))
said_injective (Err NoRoom) (Ok m) e = absurd (true≢false (cc))
said_injective (Err NoRoom) (Err NoQuestion) e = absurd (omega (arith, ap number e))
said_injective (Err NoRoom) (Err NoRoom) e = refl

-- ---- how the promise is met

module _ (q : Question) (before : List ℕ) where
  pub writes_no_room : length before < size q → Fills (answer (question_octets q)) before (refusal 9 []) before
  writes_no_room h = fills_no_room refl (omega (arith, question_size q))

  pub writes_octets : (after : List ℕ) → size q ≤ length before → after ≡ overlay (question_octets q) before
      → Fills (answer (question_octets q)) before (answer (size q)) after
  writes_octets after h e = fills_answer refl (sym (question_size q)) (omega (arith, question_size q)) e

  -- the four fields, one after the other
  pub fields_written : {a b c d : ℕ} {s1 s2 s3 s4 : List ℕ} → Written before 0 0 (field 1 q.apex) a a s1
      → Written s1 a a (field 2 (q.limit ∷ [])) b b s2 → Written s2 b b (field 3 q.name) c c s3
      → Written s3 c c (field 4 (octet_of q.way ∷ [])) d d s4 → s4 ≡ overlay (question_octets q) before
  fields_written w1 w2 w3 w4 =
      let f1 = field 1 q.apex in
      let f2 = field 2 (q.limit ∷ []) in
      let f3 = field 3 q.name in
      let f4 = field 4 (octet_of q.way ∷ []) in
      written_front (written_behind (written_behind (written_behind w1 w2 (omega arith)) w3 (omega arith)) w4 (omega arith)) (omega arith)
      ∙ ap (λ (w : List ℕ). overlay w before) (append_assoc (f1 ++ f2) f3 f4 ∙ append_assoc f1 f2 (f3 ++ f4))
