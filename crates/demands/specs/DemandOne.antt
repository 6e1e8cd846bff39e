-- Demand 1 of document 00: any octets end with an answer or a numbered refusal; each refusal comes exactly in the case that document 01's
-- table gives for it, with its reason and its place; the first in rising number is given, and a refusal leaves the space as it was. Over
-- the definitions that the contracts cite: no contract has a `requires`, so they hold for any octets, limit, key and space.
use Rattle.std.specs.Prelude.{Bool, ◌≡◌, List, [], ◌∷◌, ◌++◌, false, ◌⊎◌, ℕ, ℤ, ◌+◌, ◌-◌, ◌*◌, ◌≤◌, ◌<◌, length, Result as Outcome}
use Rattle.name.specs.declared.Refusal.{Refusal}
use Rattle.space.specs.Fold.{folded}
use Rattle.name.specs.Fold.{fold_of}
use Rattle.name.specs.Check.{check_of}
use Rattle.name.specs.Answer.{Result, answer, refusal, number, said, sized, fitted, space_after}
use Rattle.order.specs.Order.{folded_labels}
use Rattle.order.specs.Place.{full}
use Rattle.order.specs.Compare.{number_of, compare_of, said as comparison-said}
use Rattle.key.specs.Key.{key_of, write_key_of}
use Rattle.key.specs.ReadKey.{read_key_of}
use Rattle.key.specs.Begins.{IsKey}
use Rattle.text.specs.declared.TextRefusal.{TextRefusal}
use Rattle.text.specs.Reads.{said as text-said}
use Rattle.hash.specs.declared.HashRefusal.{HashRefusal}
use Rattle.hash.specs.declared.NoHashes.{NoHashes}
use Rattle.hash.specs.Answers.{said as hash-said, said_between}
use Rattle.zone.specs.Steps.{successor_steps, predecessor_steps}
use Rattle.alphabet.specs.declared.Alphabet.{Alphabet}
use Rattle.alphabet.specs.Alphabets.{allowed}
use Rattle.checks.specs.Under.{above, under}
use Rattle.neighbour.specs.Neighbour.{successor_of, predecessor_of, successor_in, predecessor_in}
use Rattle.neighbour.specs.Modified.{modified_successor_of, modified_predecessor_of, modified_successor_in, modified_predecessor_in}
use Rattle.question.specs.declared.QuestionRefusal.{QuestionRefusal}
use Rattle.question.specs.Writing.{said as question-said}
use Rattle.demands.specs.Lines.{Line, FaultLine, RoomLine, NameLines, ReadLines}

-- ---- the lines of the neighbours

-- 1: the limit is not 1 to 255
abbrev pub NoLimit : ℕ → Type 0
NoLimit limit = (limit < 1) ⊎ (255 < limit)

-- 6: the name is not at or under the apex: its folded labels are not some labels and then all the apex's
abbrev pub Outside : List ℕ → List ℕ → Type 0
Outside apex name = (ls : List (List ℕ)) → folded_labels name ≡ ls ++ folded_labels apex → ⊥

-- 1 to 6, and the later lines; 3: the limit leaves no room for a name under the apex (document 02, request Thirteen)
abbrev pub NeighbourLines : Result ℕ → List ℕ → ℕ → List ℕ → Type 0 → Type 0
NeighbourLines result apex limit name later =
    Line result (refusal 1 []) (NoLimit limit)
    (FaultLine result 2 apex
    (Line result (refusal 3 []) (limit < length apex + 2)
    (FaultLine result 4 name
    (Line result (refusal 5 []) (limit < length name)
    (Line result (refusal 6 []) (Outside apex name) later)))))

-- 1 to 6, then 9
abbrev pub AbsoluteLines : Result ℕ → List ℕ → ℕ → List ℕ → ℕ → List ℕ → Type 0
AbsoluteLines result apex limit name room octets = NeighbourLines result apex limit name (RoomLine result room octets)

-- 1 to 7, then 9
abbrev pub ModifiedLines : Result ℕ → List ℕ → ℕ → List ℕ → ℕ → List ℕ → Type 0
ModifiedLines result apex limit name room octets =
    NeighbourLines result apex limit name
    (Line result (refusal 7 []) (limit < length apex + 64) (RoomLine result room octets))

-- 12: a label above the apex, folded, has an octet that the alphabet does not allow
pub record NotSpelled (alphabet : Alphabet) (apex name : List ℕ) : Type 0 where
  pub octet : ℕ
  pub front : List ℕ
  pub back : List ℕ
  pub left : List (List ℕ)
  pub right : List (List ℕ)
  pub label : above apex name ≡ left ++ (front ++ octet ∷ back) ∷ right
  pub other : allowed alphabet octet ≡ false

-- 12, then 9
abbrev pub SpelledLines : Alphabet → Result ℕ → List ℕ → List ℕ → ℕ → List ℕ → Type 0
SpelledLines alphabet result apex name room octets =
    Line result (refusal 12 []) (NotSpelled alphabet apex name) (RoomLine result room octets)

-- 1 to 6, 12, then 9
abbrev pub AbsoluteLinesIn : Alphabet → Result ℕ → List ℕ → ℕ → List ℕ → ℕ → List ℕ → Type 0
AbsoluteLinesIn alphabet result apex limit name room octets =
    NeighbourLines result apex limit name (SpelledLines alphabet result apex name room octets)

-- 7: a depth of 0 or above 3, or A plus 64 for each label of depth is above the limit
abbrev pub NoDepth : ℕ → List ℕ → ℕ → Type 0
NoDepth depth apex limit = ((depth < 1) ⊎ (3 < depth)) ⊎ (limit < length apex + 64 * depth)

-- 1 to 7, 12, then 9
abbrev pub ModifiedLinesIn : Alphabet → ℕ → Result ℕ → List ℕ → ℕ → List ℕ → ℕ → List ℕ → Type 0
ModifiedLinesIn alphabet depth result apex limit name room octets =
    NeighbourLines result apex limit name
    (Line result (refusal 7 []) (NoDepth depth apex limit) (SpelledLines alphabet result apex name room octets))

-- ---- the demand

pub record DemandOne : Type 0 where
  pub check : (name : List ℕ) → FaultLine (sized (check_of name)) 4 name (sized (check_of name) ≡ answer (length name))
  pub fold : (name : List ℕ) (room : ℕ) → NameLines (fitted room (fold_of name)) name room (folded name)
  pub compare : (first second : List ℕ)
      → FaultLine (compare_of first second) 4 first
      (FaultLine (compare_of first second) 11 second
      (compare_of first second ≡ answer (number_of (folded_labels first) (folded_labels second))))
  pub write_key : (name : List ℕ) (room : ℕ) → NameLines (fitted room (write_key_of name)) name room (key_of (folded_labels name))
  pub read_key_lem : (key : List ℕ) (room : ℕ) → ReadLines (fitted room (read_key_of key)) 10 IsKey key room (read_key_of key)
  pub predecessor : (apex : List ℕ) (limit : ℕ) (name : List ℕ) (room : ℕ)
      → AbsoluteLines (fitted room (predecessor_of apex limit name)) apex limit name room
      (under apex (predecessor_steps full (limit - length apex) 127 (above apex name)))
  pub successor : (apex : List ℕ) (limit : ℕ) (name : List ℕ) (room : ℕ)
      → AbsoluteLines (fitted room (successor_of apex limit name)) apex limit name room
      (under apex (successor_steps full (limit - length apex) 127 (above apex name)))
  pub modified_predecessor : (apex : List ℕ) (limit : ℕ) (name : List ℕ) (room : ℕ)
      → ModifiedLines (fitted room (modified_predecessor_of apex limit name)) apex limit name room
      (under apex (predecessor_steps full (limit - length apex) 1 (above apex name)))
  pub modified_successor : (apex : List ℕ) (limit : ℕ) (name : List ℕ) (room : ℕ)
      → ModifiedLines (fitted room (modified_successor_of apex limit name)) apex limit name room
      (under apex (successor_steps full (limit - length apex) 1 (above apex name)))
  -- in a zone that keeps to an alphabet (document 02, request Eight): 12 comes after 7 and before 9; and at a depth (request Ten)
  pub predecessor_in_lem : (alphabet : Alphabet) (apex : List ℕ) (limit : ℕ) (name : List ℕ) (room : ℕ)
      → AbsoluteLinesIn alphabet (fitted room (predecessor_in alphabet apex limit name)) apex limit name room
      (under apex (predecessor_steps (allowed alphabet) (limit - length apex) 127 (above apex name)))
  pub successor_in_lem : (alphabet : Alphabet) (apex : List ℕ) (limit : ℕ) (name : List ℕ) (room : ℕ)
      → AbsoluteLinesIn alphabet (fitted room (successor_in alphabet apex limit name)) apex limit name room
      (under apex (successor_steps (allowed alphabet) (limit - length apex) 127 (above apex name)))
  pub modified_predecessor_in_lem : (alphabet : Alphabet) (depth : ℕ) (apex : List ℕ) (limit : ℕ) (name : List ℕ) (room : ℕ)
      → ModifiedLinesIn alphabet depth (fitted room (modified_predecessor_in alphabet depth apex limit name)) apex limit name room
      (under apex (predecessor_steps (allowed alphabet) (limit - length apex) depth (above apex name)))
  pub modified_successor_in_lem : (alphabet : Alphabet) (depth : ℕ) (apex : List ℕ) (limit : ℕ) (name : List ℕ) (room : ℕ)
      → ModifiedLinesIn alphabet depth (fitted room (modified_successor_in alphabet depth apex limit name)) apex limit name room
      (under apex (successor_steps (allowed alphabet) (limit - length apex) depth (above apex name)))
  -- what is said is an answer or one of the numbers 1 to 12
  pub numbers : (o : Outcome ℕ Refusal) → number (said o) ≤ 12
  -- 8 is never given (document 02, request Four): by no outcome of an operation, of a comparison, of the text reader, of the writer of
  -- questions or of what is asked of hashes
  pub never_8 : (o : Outcome ℕ Refusal) → number (said o) ≡ 8 → ⊥
  pub compared_never_8 : (c : Outcome ℤ Refusal) → number (comparison-said c) ≡ 8 → ⊥
  pub text_never_8 : (o : Outcome ℕ TextRefusal) → number (text-said o) ≡ 8 → ⊥
  pub written_never_8 : (w : Outcome ℕ QuestionRefusal) → number (question-said w) ≡ 8 → ⊥
  pub hash_never_8 : (o : Outcome ℕ HashRefusal) → number (hash-said o) ≡ 8 → ⊥
  pub lies_never_8 : (l : Outcome Bool NoHashes) → number (said_between l) ≡ 8 → ⊥
  -- a refusal leaves the space as it was
  pub space : (result : Result (List ℕ)) (before : List ℕ) → (number (fitted (length before) result) ≡ 0 → ⊥)
      → space_after result before ≡ before
