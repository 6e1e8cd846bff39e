-- The result of a question: a refusal is 1 to 7, and an answer has at most 255 octets.
use mathlib.Core.Path.{◌≡◌}
use mathlib.Core.List.{List}
use mathlib.Core.Bool.{Bool, true, false, not, ◌||◌}
use Prim.Native.Nat.{ℕ, ◌+◌, ◌≤◌}
use native.Mathlib.Omega.{arith}
use borrow.Author.Tests.{le-leb}
use lib.Dec.{ltb}
use lib.ListN.{length}
use Rattle.name.specs.Wire.{Reading}
use Rattle.std.specs.Prelude.{Ok, Err}
use Rattle.space.specs.Octets.{Octets}
use Rattle.name.specs.Wire.{reading_of}
use Rattle.name.specs.Answer.{Result, answer, number, value, fitted, refuse_if, refuse_broken}
use Rattle.checks.specs.Under.{is_under}
use Rattle.checks.specs.Checks.{checks, modified_checks}
use Rattle.alphabet.specs.declared.Alphabet.TheVariants.{Full}
use Rattle.checks.specs.declared.Depth.TheVariants.{All, One}
use Rattle.plan.specs.declared.Way.TheVariants.{Before, After}
use Rattle.neighbour.proofs.FullAlphabet.{full_successor, full_predecessor, full_modified_successor, full_modified_predecessor}
use Rattle.neighbour.proofs.SmallAnswers.{nearest_small}
use Rattle.question.specs.Question.{Question}
use Rattle.question.specs.declared.Way.{Way}
use Rattle.question.specs.declared.Way.TheVariants.{AbsolutePredecessor, AbsoluteSuccessor, ModifiedPredecessor, ModifiedSuccessor}
use Rattle.answering.specs.Answering.{operation, result_of}

if_number : (b : Bool) (n m : ℕ) (next : Result (List ℕ)) → n ≤ m → number next ≤ m → number (refuse_if b n next) ≤ m
if_number true n m next h k = h
if_number false n m next h k = k

broken_number : (r : Reading) (n m : ℕ) (next : Result (List ℕ)) → n ≤ m → number next ≤ m → number (refuse_broken r n next) ≤ m
broken_number (Ok _) n m next h k = k
broken_number (Err f) n m next h k = h

module _ (apex : List ℕ) (limit : ℕ) (name : List ℕ) where
  checks_number : (next : Result (List ℕ)) → number next ≤ 7 → number (checks apex limit name next) ≤ 7
  checks_number next h =
      if_number (ltb limit 1 || ltb 255 limit) 1 7 _ (omega arith)
      (broken_number (reading_of apex) 2 7 _ (omega arith)
      (if_number (ltb limit (length apex + 2)) 3 7 _ (omega arith)
      (broken_number (reading_of name) 4 7 _ (omega arith)
      (if_number (ltb limit (length name)) 5 7 _ (omega arith)
      (if_number (not (is_under apex name)) 6 7 _ (omega arith) h)))))

  modified_number : (x : List ℕ) → number (modified_checks apex limit name (answer x)) ≤ 7
  modified_number x =
      checks_number _ (if_number (ltb limit (length apex + 64)) 7 7 _ (omega arith) (omega arith))

pub result_number : (q : Question) → number (result_of q) ≤ 7
unfolding result_of
result_number q = go q.way
  where
    go : (w : Way) → number (operation w q.apex q.limit q.name) ≤ 7
    go AbsolutePredecessor = checks_number q.apex q.limit q.name _ (omega arith)
    go AbsoluteSuccessor = checks_number q.apex q.limit q.name _ (omega arith)
    go ModifiedPredecessor = modified_number q.apex q.limit q.name _
    go ModifiedSuccessor = modified_number q.apex q.limit q.name _

-- what is measured against enough room is the answer's length
small_answer : (r : Result (List ℕ)) (a : List ℕ) → r ≡ answer a → value (fitted (length a) r) ≤ 255 → length a ≤ 255
small_answer r a e h = rw (le-leb (length a) (length a) (omega arith)) at (rw e at h)

pub result_small : (q : Question) (a : List ℕ) → Octets q.apex → Octets q.name → result_of q ≡ answer a → length a ≤ 255
unfolding result_of
result_small q a oa on e = small_answer _ a e (go q.way (length a))
  where
    go : (w : Way) (room : ℕ) → value (fitted room (operation w q.apex q.limit q.name)) ≤ 255
    go AbsolutePredecessor room =
        rw (← full_predecessor q.apex q.limit q.name)
        (nearest_small q.apex q.limit q.name oa on Before Full All room)
    go AbsoluteSuccessor room =
        rw (← full_successor q.apex q.limit q.name)
        (nearest_small q.apex q.limit q.name oa on After Full All room)
    go ModifiedPredecessor room =
        rw (← full_modified_predecessor q.apex q.limit q.name)
        (nearest_small q.apex q.limit q.name oa on Before Full One room)
    go ModifiedSuccessor room =
        rw (← full_modified_successor q.apex q.limit q.name)
        (nearest_small q.apex q.limit q.name oa on After Full One room)
