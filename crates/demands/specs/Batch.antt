-- Request Three of document 02, questions in a batch, over the definitions that the contracts of `read_question`, `write_question`,
-- `answer` and `batch` cite. Each part is one of its sentences.
use Rattle.std.specs.Prelude.{◌≡◌, List, [], ◌∷◌, ◌++◌, ◌⊎◌, ◌↔◌, Bool, false, ℕ, ◌+◌, ◌*◌, ◌≤◌, ◌<◌, length, take, Some}
use Rattle.space.specs.Octets.{Octets}
use Rattle.name.specs.Answer.{Result, answer, refusal, number, fitted}
use Rattle.neighbour.specs.Neighbour.{successor_of, predecessor_of}
use Rattle.neighbour.specs.Modified.{modified_successor_of, modified_predecessor_of}
use Rattle.question.specs.Fields.{field, found}
use Rattle.question.specs.declared.Way.{Way}
use Rattle.question.specs.declared.Way.TheVariants.{AbsolutePredecessor, AbsoluteSuccessor, ModifiedPredecessor, ModifiedSuccessor}
use Rattle.question.specs.Way.{octet_of, way_of}
use Rattle.question.specs.Question.{Question, asking, Askable, Held, four_fields, question_octets, read_of}
use Rattle.question.specs.Fronts.{Front}
use Rattle.question.specs.Writing.{write_of}
use Rattle.answering.specs.Answering.{result_of, answered, thirteen}
use Rattle.answering.specs.Batch.{batch_of, all_octets, all_answers, AllAskable, NoQuestion, Parted}
use Rattle.answering.specs.Progress.{run_of}
use Rattle.answering.specs.Pieces.{joined, InPieces}
use Rattle.demands.specs.Lines.{Line, RoomLine}

-- a field of one-byte tag, two-byte length (high octet first) and value
pub record FieldOf (tag : ℕ) (value octets : List ℕ) : Type 0 where
  pub high : ℕ
  pub low : ℕ
  pub is : octets ≡ tag ∷ high ∷ low ∷ value
  pub count : 256 * high + low ≡ length value
  pub high_octet : high < 256
  pub low_octet : low < 256

-- the octet of a way, and the operation that it asks for
pub record WayIs (octet : ℕ) (way : Way) (operation : List ℕ → ℕ → List ℕ → Result (List ℕ)) : Type 0 where
  pub octet_is : octet_of way ≡ octet
  pub way_is : way_of octet ≡ Some way
  pub asks : (apex : List ℕ) (limit : ℕ) (name : List ℕ) → result_of (asking apex limit name way) ≡ operation apex limit name

-- 0 absolute before, 1 absolute after, 2 modified before, 3 modified after
pub record Ways : Type 0 where
  pub absolute_before : WayIs 0 AbsolutePredecessor predecessor_of
  pub absolute_after : WayIs 1 AbsoluteSuccessor successor_of
  pub modified_before : WayIs 2 ModifiedPredecessor modified_predecessor_of
  pub modified_after : WayIs 3 ModifiedSuccessor modified_successor_of

-- ---- the request

pub record Batch : Type 0 where
  -- fields; a value is at most 600 octets
  pub fields : (tag : ℕ) (value : List ℕ) → length value ≤ 600 → FieldOf tag value (field tag value)
  -- a question is 01 apex, 02 limit (one octet), 03 name, 04 way (one octet, 0 to 3), in this order: what is read stands there, and what
  -- stands there is read
  pub questions : (q : Question) → question_octets q
      ≡ field 0x01 q.apex ++ (field 0x02 (q.limit ∷ []) ++ (field 0x03 q.name ++ field 0x04 (octet_of q.way ∷ [])))
  pub holds : (q : Question) → Askable q ↔ (length q.apex ≤ 600) × (q.limit ≤ 255) × (length q.name ≤ 600)
  pub question : (s : List ℕ) (q : Question) (rest : List ℕ) → Octets s
      → read_of s ≡ found q rest ↔ Askable q × (s ≡ question_octets q ++ rest)
  pub ways : Ways
  -- an answer is 10 with the refusal number in one octet, and after number 0 also 11 with the name
  pub answer_named : (q : Question) (name : List ℕ) → result_of q ≡ answer name → answered q ≡ field 0x10 (0 ∷ []) ++ field 0x11 name
  pub answer_refused : (q : Question) (n : ℕ) (vs : List ℕ) → result_of q ≡ refusal n vs → answered q ≡ field 0x10 (n ∷ [])
  -- a question's answer stays, whatever comes after it
  pub after : (qs : List Question) (s : List ℕ) → AllAskable qs → batch_of (all_octets qs ++ s) ≡ all_answers qs ++ batch_of s
  -- a wrong tag, order, size or way, or a question cut off, is answered with 13 and ends the batch: nothing after it is answered. This
  -- comes before 1, whatever the apex, the limit and the name are
  pub thirteen_is : thirteen ≡ field 0x10 (13 ∷ [])
  pub wrong_tag : (front : List ℕ) (tag least most : ℕ) → Front front tag least most → (t : ℕ) (s : List ℕ) → (t ≡ tag → ⊥)
      → batch_of (front ++ t ∷ s) ≡ thirteen
  pub wrong_size : (front : List ℕ) (tag least most : ℕ) → Front front tag least most → (high low : ℕ) (s : List ℕ)
      → (256 * high + low < least) ⊎ (most < 256 * high + low) → batch_of (front ++ tag ∷ high ∷ low ∷ s) ≡ thirteen
  pub wrong_way : (apex : List ℕ) (limit : ℕ) (name : List ℕ) (octet : ℕ) (s : List ℕ) → length apex ≤ 600 → length name ≤ 600
      → 3 < octet → batch_of (four_fields apex limit name octet ++ s) ≡ thirteen
  pub cut_off : (q : Question) (n : ℕ) → Askable q → 1 ≤ n → n < length (question_octets q)
      → batch_of (take n (question_octets q)) ≡ thirteen
  pub no_question : (s : List ℕ) → Octets s → NoQuestion s → batch_of s ≡ thirteen
  -- the end of the input between questions ends it quietly
  pub quiet_end : batch_of [] ≡ []
  -- and there is nothing else: every input is questions, and after them the end or what is no question
  pub parted : (s : List ℕ) → Octets s → Parted s
  -- no answer carries 9: the number of a question's answer is 0 to 7
  pub numbers : (q : Question) → number (result_of q) ≤ 7
  -- the writer of questions refuses with 13 what no question can hold, then 9
  pub write : (apex : List ℕ) (limit : ℕ) (name : List ℕ) (octet room : ℕ) → let result = fitted room (write_of apex limit name octet) in
      Line result (refusal 13 []) (Held apex limit name octet → ⊥) (RoomLine result room (four_fields apex limit name octet))
  -- what it writes is read back as meant, whatever comes after it
  pub read_back : (q : Question) (octets s : List ℕ) → write_of q.apex q.limit q.name (octet_of q.way) ≡ answer octets
      → read_of (octets ++ s) ≡ found q s
  -- a batch of written questions is answered question by question
  pub written : (qs : List Question) → AllAskable qs → batch_of (all_octets qs) ≡ all_answers qs
  -- an input that comes in pieces is answered as the whole is, whatever the pieces and the room at each call
  pub pieces : (ps : List (List ℕ)) (w : List ℕ) → InPieces [] ps w → w ≡ batch_of (joined ps)
  -- and to its end: with room for the largest answer, a call that neither reads nor ends waits for the rest of a question
  pub finishes : (ps : List (List ℕ)) → Octets (joined ps) → InPieces [] ps (batch_of (joined ps))
  pub moves : (last : Bool) (room : ℕ) (s : List ℕ) → 262 ≤ room → Octets s → (run_of last room s).ended ≡ false
      → (run_of last room s).read ≡ 0 → (last ≡ false) × (length s < 1214)
  -- the whole case
  pub whole_case : batch_of
      (0x01 ∷ 0x00 ∷ 0x01 ∷ 0x00 ∷ 0x02 ∷ 0x00 ∷ 0x01 ∷ 0xff ∷ 0x03 ∷ 0x00 ∷ 0x03 ∷ 0x01 ∷ 0x61 ∷ 0x00 ∷ 0x04 ∷ 0x00 ∷ 0x01 ∷ 0x01 ∷ [])
      ≡ 0x10 ∷ 0x00 ∷ 0x01 ∷ 0x00 ∷ 0x11 ∷ 0x00 ∷ 0x05 ∷ 0x01 ∷ 0x00 ∷ 0x01 ∷ 0x61 ∷ 0x00 ∷ []
