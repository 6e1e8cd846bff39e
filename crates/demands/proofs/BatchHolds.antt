-- Request Three holds: from the laws of questions, read and written, and of batches, whole and in pieces.
use mathlib.Core.Path.{◌≡◌, refl, sym, ap, ◌∙◌}
use mathlib.Core.List.{List, [], ◌∷◌, ◌++◌}
use mathlib.Core.Bool.{true≢false}
use mathlib.Core.Logic.{◌⊎◌, ◌↔◌, inl, inr}
use Prim.Native.Nat.{ℕ, ◌+◌, ◌*◌, ◌/◌, ◌%◌, ◌≤◌, ◌<◌}
use native.Mathlib.Omega.{arith}
use lib.ListN.{length, take, length-append, length-take}
use Rattle.space.specs.Octets.{Octets}
use Rattle.name.specs.Wire.{read_from}
use Rattle.name.specs.Labels.{split}
use Rattle.name.specs.Answer.{answer, refusal, fitted}
use Rattle.name.proofs.Answers.{answer_injective}
use Rattle.zone.specs.Alphabet.{scan, from}
use Rattle.zone.specs.Steps.{least, deeper, successor_steps}
use Rattle.question.specs.Fields.{field, found, field_of}
use Rattle.question.specs.Way.{octet_of}
use Rattle.question.specs.Question.{Question, Askable, Held, four_fields, question_octets, read_of}
use Rattle.question.specs.Fronts.{Front}
use Rattle.question.specs.Writing.{write_of}
use Rattle.question.proofs.Fronts.{tag_wrong, size_wrong, way_wrong, beginning_cut}
use Rattle.question.proofs.Questions.{question_read, question_holds, question_askable}
use Rattle.question.proofs.Writings.{WrittenOrRefused, written_or_refused}
use Rattle.answering.specs.Answering.{result_of, answered, thirteen}
use Rattle.answering.specs.Batch.{batch_from, batch_of}
use Rattle.answering.proofs.AnswerSteps.{answered_name, answered_number}
use Rattle.answering.proofs.Batches.{batch_end, batch_wrong, batch_cut, batch_after, batch_written, no_question_thirteen, batch_parted}
use Rattle.answering.proofs.Finishing.{pieces_finish}
use Rattle.answering.proofs.Moving.{nothing_moves}
use Rattle.answering.proofs.Piecewise.{pieces_joined}
use Rattle.answering.proofs.Results.{result_number}
use Rattle.demands.specs.Lines.{Line, RoomLine}
use Rattle.demands.specs.Batch.{FieldOf, Ways, Batch}
use Rattle.demands.proofs.Lines.{room_line}

-- ---- what a question is

field_is : (tag : ℕ) (value : List ℕ) → length value ≤ 600 → FieldOf tag value (field tag value)
field_is tag value h =
    record {
      high = length value / 256;
      low = length value % 256;
      is = refl;
      count = omega arith;
      high_octet = omega arith;
      low_octet = omega arith;
    }

question_is : (s : List ℕ) (q : Question) (rest : List ℕ) → Octets s
    → read_of s ≡ found q rest ↔ Askable q × (s ≡ question_octets q ++ rest)
question_is s q rest o = (
  λ e. (question_askable s q rest o e, (question_holds s q rest e).octets o),
  λ h. ap (λ (u : List ℕ). read_of u) h.1 ∙ question_read q rest h.0,
)

ways : Ways
unfolding result_of
ways =
    record {
      absolute_before = record { octet_is = refl; way_is = refl; asks = λ apex limit name. refl };
      absolute_after = record { octet_is = refl; way_is = refl; asks = λ apex limit name. refl };
      modified_before = record { octet_is = refl; way_is = refl; asks = λ apex limit name. refl };
      modified_after = record { octet_is = refl; way_is = refl; asks = λ apex limit name. refl };
    }

-- ---- 13

some_after : (front : List ℕ) (t : ℕ) (s : List ℕ) → 1 ≤ length (front ++ t ∷ s)
some_after front t s = omega (arith, length-append front (t ∷ s))

module _ (front : List ℕ) (tag least most : ℕ) (f : Front front tag least most) where
  wrong_tag : (t : ℕ) (s : List ℕ) → (t ≡ tag → ⊥) → batch_of (front ++ t ∷ s) ≡ thirteen
  wrong_tag t s other = batch_wrong (front ++ t ∷ s) (tag_wrong f t s other) (some_after front t s)

  wrong_size : (high low : ℕ) (s : List ℕ) → (256 * high + low < least) ⊎ (most < 256 * high + low)
      → batch_of (front ++ tag ∷ high ∷ low ∷ s) ≡ thirteen
  wrong_size high low s out =
      batch_wrong (front ++ tag ∷ high ∷ low ∷ s) (size_wrong f high low s out) (some_after front tag (high ∷ low ∷ s))

wrong_way : (apex : List ℕ) (limit : ℕ) (name : List ℕ) (octet : ℕ) (s : List ℕ) → length apex ≤ 600 → length name ≤ 600
    → 3 < octet → batch_of (four_fields apex limit name octet ++ s) ≡ thirteen
wrong_way apex limit name octet s a n w =
    batch_wrong (four_fields apex limit name octet ++ s) (way_wrong apex limit name octet s a n w) (omega arith)

cut_off : (q : Question) (n : ℕ) → Askable q → 1 ≤ n → n < length (question_octets q) → batch_of (take n (question_octets q)) ≡ thirteen
cut_off q n a some h =
    batch_cut (take n (question_octets q)) (beginning_cut q a n h) (omega (arith, length-take n (question_octets q)))

-- ---- the writer

module _ (apex : List ℕ) (limit : ℕ) (name : List ℕ) (octet : ℕ) where
  write_lines : (room : ℕ)
      → let result = fitted room (write_of apex limit name octet) in
      Line result (refusal 13 []) (Held apex limit name octet → ⊥) (RoomLine result room (four_fields apex limit name octet))
  write_lines room = go (written_or_refused apex limit name octet)
    where
      go : WrittenOrRefused apex limit name octet
          → let result = fitted room (write_of apex limit name octet) in
          Line result (refusal 13 []) (Held apex limit name octet → ⊥) (RoomLine result room (four_fields apex limit name octet))
      go (inl h) = inr (λ none. none h.0, rw h.1 (room_line room (four_fields apex limit name octet)))
      go (inr h) = inl (h.0, rw h.1)

  -- what is answered stands for a question that holds these parts
  written_held : (octets : List ℕ) → write_of apex limit name octet ≡ answer octets
      → Held apex limit name octet × (octets ≡ four_fields apex limit name octet)
  written_held octets e = go (written_or_refused apex limit name octet)
    where
      go : WrittenOrRefused apex limit name octet → Held apex limit name octet × (octets ≡ four_fields apex limit name octet)
      go (inl h) = (h.0, answer_injective (sym e ∙ h.1))
      go (inr h) = absurd (true≢false (cc))

read_back : (q : Question) (octets s : List ℕ) → write_of q.apex q.limit q.name (octet_of q.way) ≡ answer octets
    → read_of (octets ++ s) ≡ found q s
read_back q octets s e =
    let h = written_held q.apex q.limit q.name (octet_of q.way) octets e in
    let f = h.0.fits in
    rw h.1 (question_read q s (record { apex_fits = f.apex_fits; limit_fits = f.limit_fits; name_fits = f.name_fits }))

-- ---- the whole case

whole_case : batch_of
    (0x01 ∷ 0x00 ∷ 0x01 ∷ 0x00 ∷ 0x02 ∷ 0x00 ∷ 0x01 ∷ 0xff ∷ 0x03 ∷ 0x00 ∷ 0x03 ∷ 0x01 ∷ 0x61 ∷ 0x00 ∷ 0x04 ∷ 0x00 ∷ 0x01 ∷ 0x01 ∷ [])
    ≡ 0x10 ∷ 0x00 ∷ 0x01 ∷ 0x00 ∷ 0x11 ∷ 0x00 ∷ 0x05 ∷ 0x01 ∷ 0x00 ∷ 0x01 ∷ 0x61 ∷ 0x00 ∷ []
unfolding batch_from read_of field_of answered result_of read_from split successor_steps deeper least from scan
whole_case = refl

pub batch : Batch
batch =
    record {
      fields = field_is;
      questions = λ q. refl;
      holds = λ q. (
        λ a. (omega (arith, a.apex_fits), omega (arith, a.limit_fits), omega (arith, a.name_fits)),
        λ h. record { apex_fits = omega (arith, h.0); limit_fits = omega (arith, h.1); name_fits = omega (arith, h.2) },
      );
      question = question_is;
      ways = ways;
      answer_named = answered_name;
      answer_refused = answered_number;
      after = batch_after;
      thirteen_is = refl;
      wrong_tag = wrong_tag;
      wrong_size = wrong_size;
      wrong_way = wrong_way;
      cut_off = cut_off;
      no_question = no_question_thirteen;
      quiet_end = batch_end;
      parted = batch_parted;
      numbers = result_number;
      write = write_lines;
      read_back = read_back;
      written = batch_written;
      pieces = λ ps w r. pieces_joined r;
      finishes = pieces_finish [];
      moves = λ last room s enough. nothing_moves last room enough s;
      whole_case = whole_case;
    }
