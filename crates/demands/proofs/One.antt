-- Demand 1 holds: each definition is a chain of tests in rising number, and each line of the table is one of them.
use mathlib.Core.Path.{◌≡◌, refl, sym, ap, ◌∙◌}
use mathlib.Core.List.{List, [], ◌∷◌}
use mathlib.Core.Bool.{Bool, true, false, cond, not, ◌||◌, true≢false}
use mathlib.Core.Logic.{◌⊎◌, inl, inr}
use Prim.Native.Nat.{ℕ, ◌+◌, ◌-◌, ◌*◌, ◌≤◌, ◌<◌}
use native.Mathlib.Omega.{arith}
use borrow.Author.Tests.{ltb-true, ltb-false, not-true, not-false}
use lib.Dec.{leb, ltb}
use lib.ListN.{length}
use Rattle.facts.proofs.Booleans.{either_true, neither_true}
use Rattle.name.specs.declared.Refusal.{Refusal}
use Rattle.name.specs.declared.Refusal.TheVariants.{BadLimit, BadApex, ApexTooLong, BadName, NameTooLong, NotUnderApex}
use Rattle.name.specs.declared.Refusal.TheVariants.{NoFullLabel, NoRoom, NotAKey, BadSecondName, NotInAlphabet}
use Rattle.std.specs.Prelude.{ℤ, Result as Outcome, Ok, Err}
use Rattle.hash.specs.declared.HashRefusal.TheVariants.{NoHash, NoRoom}
use Rattle.question.specs.declared.QuestionRefusal.TheVariants.{NoQuestion, NoRoom}
use Rattle.text.specs.declared.TextRefusal.TheVariants.{NoRoom, NotAText}
use Rattle.space.specs.Octets.{overlay}
use Rattle.name.specs.Wire.{reading_of}
use Rattle.space.specs.Fold.{folded}
use Rattle.name.specs.Check.{check_of}
use Rattle.name.specs.Answer.{Result, answer, refusal, number, refusal_number, said, sized, fitted, space_after, refuse_if, refuse_broken}
use Rattle.name.proofs.Small.{sized_broken}
use Rattle.order.specs.Order.{folded_labels}
use Rattle.order.specs.Place.{full}
use Rattle.order.specs.Compare.{number_of, compare_of, said as comparison-said}
use Rattle.key.specs.Key.{key_of}
use Rattle.key.specs.ReadKey.{read_key_of}
use Rattle.key.specs.Begins.{IsKey}
use Rattle.key.proofs.ReadNames.{answered_or_refused, answered_has_key, refused_no_key}
use Rattle.key.proofs.ReaderStops.{read_stops}
use Rattle.text.specs.declared.TextRefusal.{TextRefusal}
use Rattle.text.specs.Reads.{said as text-said}
use Rattle.hash.specs.declared.HashRefusal.{HashRefusal}
use Rattle.hash.specs.declared.NoHashes.{NoHashes}
use Rattle.hash.specs.Answers.{said as hash-said, said_between}
use Rattle.zone.specs.Steps.{successor_steps, predecessor_steps}
use Rattle.alphabet.specs.declared.Alphabet.{Alphabet}
use Rattle.alphabet.specs.Alphabets.{allowed, all_spelled}
use Rattle.checks.specs.Under.{is_under, above, under}
use Rattle.checks.specs.Checks.{checks, modified_checks}
use Rattle.plan.specs.Spelled.{spelled_check}
use Rattle.checks.proofs.UnderLabels.{under_labels, labels_under}
use Rattle.neighbour.specs.Modified.{no_depth}
use Rattle.neighbour.proofs.Depths.{depth_passed}
use Rattle.neighbour.proofs.SmallAnswers.{fitted_if, fitted_checks}
use Rattle.question.specs.declared.QuestionRefusal.{QuestionRefusal}
use Rattle.question.specs.Writing.{said as question-said}
use Rattle.demands.specs.Lines.{Line, FaultLine, RoomLine, ReadLines}
use Rattle.demands.specs.DemandOne.{NoLimit, Outside, NeighbourLines, AbsoluteLines, ModifiedLines, DemandOne}
use Rattle.demands.specs.DemandOne.{NotSpelled, SpelledLines, AbsoluteLinesIn, NoDepth, ModifiedLinesIn}
use Rattle.demands.proofs.Spellings.{not_spelled, all_spelled_none}
use Rattle.demands.proofs.Lines.{if_line, fault_line, room_line, name_lines, read_lines}

-- ---- the operations

check_lines : (name : List ℕ) → FaultLine (sized (check_of name)) 4 name (sized (check_of name) ≡ answer (length name))
check_lines name =
    rw (sized_broken (reading_of name) 4 (answer name))
    (fault_line (answer (length name)) (λ r. r ≡ answer (length name)) refl name 4)

compare_lines : (first second : List ℕ) → FaultLine (compare_of first second) 4 first
    (FaultLine (compare_of first second) 11 second
    (compare_of first second ≡ answer (number_of (folded_labels first) (folded_labels second))))
compare_lines first second =
    let a = answer (number_of (folded_labels first) (folded_labels second)) in
    fault_line (refuse_broken (reading_of second) 11 a) (λ r. FaultLine r 11 second (r ≡ a))
    (fault_line a (λ r. r ≡ a) refl second 11) first 4

read_key_lines : (key : List ℕ) (room : ℕ) → ReadLines (fitted room (read_key_of key)) 10 IsKey key room (read_key_of key)
read_key_lines key room =
    read_lines 10 IsKey read_key_of
    (λ k a e. record { name = a; has = (answered_has_key k a e).key })
    (λ k p e h. refused_no_key k (p ∷ []) h.name e h.has)
    read_stops key room (answered_or_refused key)

-- ---- the tests of a neighbour

-- the test of 6
not_under : (apex name : List ℕ) → not (is_under apex name) ≡ true → Outside apex name
not_under apex name e ls h = true≢false (sym e ∙ ap not (labels_under apex name ls h))

is_under_lem : (apex name : List ℕ) → not (is_under apex name) ≡ false → Outside apex name → ⊥
is_under_lem apex name e none = go (is_under apex name) refl e
  where
    go : (b : Bool) → is_under apex name ≡ b → not b ≡ false → ⊥
    go true h i = none (above apex name) (under_labels apex name h)
    go false h i = true≢false i

not_below : (a b : ℕ) → ltb a b ≡ false → a < b → ⊥
not_below a b e h = omega (arith, ltb-false a b e)

pub neighbour_lines : (apex : List ℕ) (limit : ℕ) (name : List ℕ) (next : Result ℕ) (later : Result ℕ → Type 0) → later next
    → NeighbourLines (checks apex limit name next) apex limit name (later (checks apex limit name next))
neighbour_lines apex limit name next later l =
    if_line _ after_1
    (fault_line _ after_2
    (if_line _ after_3
    (fault_line _ after_4
    (if_line _ after_5
    (if_line next later l (not (is_under apex name)) 6 (Outside apex name) (not_under apex name) (is_under_lem apex name))
    (ltb limit (length name)) 5 (limit < length name) (ltb-true limit (length name)) (not_below limit (length name)))
    name 4)
    (ltb limit (length apex + 2)) 3 (limit < length apex + 2) (ltb-true limit (length apex + 2)) (not_below limit (length apex + 2)))
    apex 2)
    (ltb limit 1 || ltb 255 limit) 1 (NoLimit limit)
    (λ e. limit_out (either_true (ltb limit 1) (ltb 255 limit) e))
    (λ e h. limit_in (neither_true (ltb limit 1) (ltb 255 limit) e) h)
  where
    after_5 : Result ℕ → Type 0
    after_5 r = Line r (refusal 6 []) (Outside apex name) (later r)

    after_4 : Result ℕ → Type 0
    after_4 r = Line r (refusal 5 []) (limit < length name) (after_5 r)

    after_3 : Result ℕ → Type 0
    after_3 r = FaultLine r 4 name (after_4 r)

    after_2 : Result ℕ → Type 0
    after_2 r = Line r (refusal 3 []) (limit < length apex + 2) (after_3 r)

    after_1 : Result ℕ → Type 0
    after_1 r = FaultLine r 2 apex (after_2 r)

    limit_out : (ltb limit 1 ≡ true) ⊎ (ltb 255 limit ≡ true) → NoLimit limit
    limit_out (inl e) = inl (ltb-true limit 1 e)
    limit_out (inr e) = inr (ltb-true 255 limit e)

    limit_in : (ltb limit 1 ≡ false) × (ltb 255 limit ≡ false) → NoLimit limit → ⊥
    limit_in e (inl h) = not_below limit 1 e.0 h
    limit_in e (inr h) = not_below 255 limit e.1 h

-- 1 to 6, then 9
absolute_lines : (apex : List ℕ) (limit : ℕ) (name : List ℕ) (room : ℕ) (a : List ℕ)
    → AbsoluteLines (fitted room (checks apex limit name (answer a))) apex limit name room a
absolute_lines apex limit name room a =
    rw (fitted_checks apex limit name room (answer a))
    (neighbour_lines apex limit name (fitted room (answer a)) (λ r. RoomLine r room a) (room_line room a))

-- 1 to 7, then 9
modified_lines : (apex : List ℕ) (limit : ℕ) (name : List ℕ) (room : ℕ) (a : List ℕ)
    → ModifiedLines (fitted room (modified_checks apex limit name (answer a))) apex limit name room a
modified_lines apex limit name room a =
    rw (
      fitted_checks apex limit name room (refuse_if (ltb limit (length apex + 64)) 7 (answer a)),
      fitted_if (ltb limit (length apex + 64)) 7 room (answer a),
    )
    (neighbour_lines apex limit name _ (λ r. Line r (refusal 7 []) (limit < length apex + 64) (RoomLine r room a))
    (if_line (fitted room (answer a)) (λ r. RoomLine r room a) (room_line room a)
    (ltb limit (length apex + 64)) 7 (limit < length apex + 64) (ltb-true limit (length apex + 64)) (not_below limit (length apex + 64))))

-- 12, then 9
spelled_lines : (alphabet : Alphabet) (apex name : List ℕ) (room : ℕ) (a : List ℕ) → let result = fitted room (answer a) in
    SpelledLines alphabet (spelled_check alphabet apex name result) apex name room a
spelled_lines alphabet apex name room a =
    if_line (fitted room (answer a)) (λ r. RoomLine r room a) (room_line room a) (not (all_spelled alphabet (above apex name))) 12
    (NotSpelled alphabet apex name)
    (λ e. not_spelled alphabet apex name (not-true (all_spelled alphabet (above apex name)) e))
    (λ e. all_spelled_none alphabet apex name (not-false (all_spelled alphabet (above apex name)) e))

-- 1 to 6, 12, then 9
pub absolute_lines_in : (alphabet : Alphabet) (apex : List ℕ) (limit : ℕ) (name : List ℕ) (room : ℕ) (a : List ℕ)
    → AbsoluteLinesIn alphabet (fitted room (checks apex limit name (spelled_check alphabet apex name (answer a)))) apex limit name room a
absolute_lines_in alphabet apex limit name room a =
    rw (
      fitted_checks apex limit name room (spelled_check alphabet apex name (answer a)),
      fitted_if (not (all_spelled alphabet (above apex name))) 12 room (answer a),
    )
    (neighbour_lines apex limit name _ (λ r. SpelledLines alphabet r apex name room a) (spelled_lines alphabet apex name room a))

-- the test of 7
no_depth_lem : (depth : ℕ) (apex : List ℕ) (limit : ℕ) → no_depth depth apex limit ≡ true → NoDepth depth apex limit
no_depth_lem depth apex limit e = go (either_true (ltb depth 1 || ltb 3 depth) (ltb limit (length apex + 64 * depth)) e)
  where
    number : (ltb depth 1 ≡ true) ⊎ (ltb 3 depth ≡ true) → (depth < 1) ⊎ (3 < depth)
    number (inl h) = inl (ltb-true depth 1 h)
    number (inr h) = inr (ltb-true 3 depth h)

    go : (ltb depth 1 || ltb 3 depth ≡ true) ⊎ (ltb limit (length apex + 64 * depth) ≡ true) → NoDepth depth apex limit
    go (inl h) = inl (number (either_true (ltb depth 1) (ltb 3 depth) h))
    go (inr h) = inr (ltb-true limit (length apex + 64 * depth) h)

a_depth : (depth : ℕ) (apex : List ℕ) (limit : ℕ) → no_depth depth apex limit ≡ false → NoDepth depth apex limit → ⊥
a_depth depth apex limit e = let p = depth_passed depth apex limit e in go p
  where
    go : (1 ≤ depth) × (depth ≤ 3) × (length apex + 64 * depth ≤ limit) → NoDepth depth apex limit → ⊥
    go p (inl (inl h)) = omega (arith, p.0, h)
    go p (inl (inr h)) = omega (arith, p.1, h)
    go p (inr h) = omega (arith, p.2, h)

-- 1 to 7, 12, then 9
modified_lines_in : (alphabet : Alphabet) (depth : ℕ) (apex : List ℕ) (limit : ℕ) (name : List ℕ) (room : ℕ) (a : List ℕ)
    → ModifiedLinesIn alphabet depth
    (fitted room (checks apex limit name (refuse_if (no_depth depth apex limit) 7 (spelled_check alphabet apex name (answer a)))))
    apex limit name room a
modified_lines_in alphabet depth apex limit name room a =
    rw (
      fitted_checks apex limit name room (refuse_if (no_depth depth apex limit) 7 (spelled_check alphabet apex name (answer a))),
      fitted_if (no_depth depth apex limit) 7 room (spelled_check alphabet apex name (answer a)),
      fitted_if (not (all_spelled alphabet (above apex name))) 12 room (answer a),
    )
    (neighbour_lines apex limit name _
    (λ r. Line r (refusal 7 []) (NoDepth depth apex limit) (SpelledLines alphabet r apex name room a))
    (if_line _ (λ r. SpelledLines alphabet r apex name room a) (spelled_lines alphabet apex name room a)
    (no_depth depth apex limit) 7 (NoDepth depth apex limit) (no_depth_lem depth apex limit) (a_depth depth apex limit)))

-- ---- the numbers and the space

refusal_numbers : (w : Refusal) → (refusal_number w ≤ 12) × (refusal_number w ≡ 8 → ⊥)
refusal_numbers BadLimit = (omega arith, λ e. omega arith)
refusal_numbers (BadApex f) = (omega arith, λ e. omega arith)
refusal_numbers ApexTooLong = (omega arith, λ e. omega arith)
refusal_numbers (BadName f) = (omega arith, λ e. omega arith)
refusal_numbers NameTooLong = (omega arith, λ e. omega arith)
refusal_numbers NotUnderApex = (omega arith, λ e. omega arith)
refusal_numbers NoFullLabel = (omega arith, λ e. omega arith)
refusal_numbers NoRoom = (omega arith, λ e. omega arith)
refusal_numbers (NotAKey p) = (omega arith, λ e. omega arith)
refusal_numbers (BadSecondName f) = (omega arith, λ e. omega arith)
refusal_numbers NotInAlphabet = (omega arith, λ e. omega arith)

said_numbers : (o : Outcome ℕ Refusal) → (number (said o) ≤ 12) × (number (said o) ≡ 8 → ⊥)
said_numbers (Ok n) = (omega arith, λ e. omega arith)
said_numbers (Err w) = refusal_numbers w

compared_never_8 : (c : Outcome ℤ Refusal) → number (comparison-said c) ≡ 8 → ⊥
compared_never_8 (Ok z) e = omega arith
compared_never_8 (Err w) e = (refusal_numbers w).1 e

text_never_8 : (o : Outcome ℕ TextRefusal) → number (text-said o) ≡ 8 → ⊥
text_never_8 (Ok n) e = omega arith
text_never_8 (Err (NotAText p)) e = omega arith
text_never_8 (Err NoRoom) e = omega arith

written_never_8 : (w : Outcome ℕ QuestionRefusal) → number (question-said w) ≡ 8 → ⊥
written_never_8 (Ok n) e = omega arith
written_never_8 (Err NoQuestion) e = omega arith
written_never_8 (Err NoRoom) e = omega arith

hash_never_8 : (o : Outcome ℕ HashRefusal) → number (hash-said o) ≡ 8 → ⊥
hash_never_8 (Ok n) e = omega arith
hash_never_8 (Err NoHash) e = omega arith
hash_never_8 (Err NoRoom) e = omega arith

lies_never_8 : (l : Outcome Bool NoHashes) → number (said_between l) ≡ 8 → ⊥
lies_never_8 (Ok true) e = omega arith
lies_never_8 (Ok false) e = omega arith
lies_never_8 (Err _) e = omega arith

space_kept : (result : Result (List ℕ)) (before : List ℕ) → (number (fitted (length before) result) ≡ 0 → ⊥)
    → space_after result before ≡ before
space_kept (refusal n vs) before h = refl
space_kept (answer a) before h = go (leb (length a) (length before)) h
  where
    go : (t : Bool) → (number (cond t (answer (length a)) (refusal 9 [])) ≡ 0 → ⊥) → cond t (overlay a before) before ≡ before
    go true f = absurd (f refl)
    go false f = refl

pub demand_one : DemandOne
demand_one =
    record {
      check = check_lines;
      fold = λ name room. name_lines name room (folded name);
      compare = compare_lines;
      write_key = λ name room. name_lines name room (key_of (folded_labels name));
      read_key_lem = read_key_lines;
      predecessor = λ apex limit name room.
          absolute_lines apex limit name room (under apex (predecessor_steps full (limit - length apex) 127 (above apex name)));
      successor = λ apex limit name room.
          absolute_lines apex limit name room (under apex (successor_steps full (limit - length apex) 127 (above apex name)));
      modified_predecessor = λ apex limit name room.
          modified_lines apex limit name room (under apex (predecessor_steps full (limit - length apex) 1 (above apex name)));
      modified_successor = λ apex limit name room.
          modified_lines apex limit name room (under apex (successor_steps full (limit - length apex) 1 (above apex name)));
      predecessor_in_lem = λ alphabet apex limit name room.
          absolute_lines_in alphabet apex limit name room
          (under apex (predecessor_steps (allowed alphabet) (limit - length apex) 127 (above apex name)));
      successor_in_lem = λ alphabet apex limit name room.
          absolute_lines_in alphabet apex limit name room
          (under apex (successor_steps (allowed alphabet) (limit - length apex) 127 (above apex name)));
      modified_predecessor_in_lem = λ alphabet depth apex limit name room.
          modified_lines_in alphabet depth apex limit name room
          (under apex (predecessor_steps (allowed alphabet) (limit - length apex) depth (above apex name)));
      modified_successor_in_lem = λ alphabet depth apex limit name room.
          modified_lines_in alphabet depth apex limit name room
          (under apex (successor_steps (allowed alphabet) (limit - length apex) depth (above apex name)));
      numbers = λ o. (said_numbers o).0;
      never_8 = λ o. (said_numbers o).1;
      compared_never_8 = compared_never_8;
      text_never_8 = text_never_8;
      written_never_8 = written_never_8;
      hash_never_8 = hash_never_8;
      lies_never_8 = lies_never_8;
      space = space_kept;
    }
