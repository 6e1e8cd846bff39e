-- `operate` meets its contract: the way decides which operation the question's result is, and in the full alphabet it answers as that does.
use mathlib.Core.Path.{◌≡◌}
use mathlib.Core.List.{List}
use Prim.Native.Nat.{ℕ}
use borrow.Author.Rules.{rules}
use Rattle.name.specs.Answer.{Result, Fills}
use Rattle.name.proofs.Answers.{fills_same}
use Rattle.alphabet.specs.declared.Alphabet.TheVariants.{Full}
use Rattle.neighbour.specs.Neighbour.{predecessor_in, successor_in}
use Rattle.neighbour.specs.Modified.{modified_predecessor_in, modified_successor_in}
use Rattle.neighbour.proofs.FullAlphabet.{full_successor, full_predecessor, full_modified_successor, full_modified_predecessor}
use Rattle.question.specs.Question.{asking}
use Rattle.question.specs.declared.Way.{Way}
use Rattle.question.specs.declared.Way.TheVariants.{AbsolutePredecessor, AbsoluteSuccessor, ModifiedPredecessor, ModifiedSuccessor}
use Rattle.answering.specs.Answering.{result_of}
use Rattle.answering.proofs.operate.Goals as goal

module _ (apex : List ℕ) (limit : ℕ) (name : List ℕ) (way : Way) (before : List ℕ) (words : Result ℕ) (after : List ℕ) where
  by_predecessor : way ≡ AbsolutePredecessor → Fills (predecessor_in Full apex limit name) before words after
      → Fills (result_of (asking apex limit name way)) before words after
  unfolding result_of
  by_predecessor e f = rw e (fills_same (full_predecessor apex limit name) f)

  by_successor : way ≡ AbsoluteSuccessor → Fills (successor_in Full apex limit name) before words after
      → Fills (result_of (asking apex limit name way)) before words after
  unfolding result_of
  by_successor e f = rw e (fills_same (full_successor apex limit name) f)

  by_modified_predecessor : way ≡ ModifiedPredecessor → Fills (modified_predecessor_in Full 1 apex limit name) before words after
      → Fills (result_of (asking apex limit name way)) before words after
  unfolding result_of
  by_modified_predecessor e f = rw e (fills_same (full_modified_predecessor apex limit name) f)

  by_modified_successor : way ≡ ModifiedSuccessor → Fills (modified_successor_in Full 1 apex limit name) before words after
      → Fills (result_of (asking apex limit name way)) before words after
  unfolding result_of
  by_modified_successor e f = rw e (fills_same (full_modified_successor apex limit name) f)

pub returns-in-AbsolutePredecessor : goal.returns-in-AbsolutePredecessor
returns-in-AbsolutePredecessor c = search (rules, by_predecessor)

pub returns-in-AbsoluteSuccessor : goal.returns-in-AbsoluteSuccessor
returns-in-AbsoluteSuccessor c = search (rules, by_successor)

pub returns-in-ModifiedPredecessor : goal.returns-in-ModifiedPredecessor
returns-in-ModifiedPredecessor c = search (rules, by_modified_predecessor)

pub returns-in-ModifiedSuccessor : goal.returns-in-ModifiedSuccessor
returns-in-ModifiedSuccessor c = search (rules, by_modified_successor)
