-- A denial is answered only where the checks 1 to 6 let the query pass, and the encloser is a proper ancestor of it at or under the apex
-- (`denial_answered`): each line that does not refuse tells that its test fails.
use mathlib.Core.Path.{◌≡◌, sym}
use mathlib.Core.List.{List}
use mathlib.Core.Bool.{true, not, ◌&&◌}
use Prim.Native.Nat.{ℕ}
use borrow.Author.Tests.{not-false}
use Rattle.facts.proofs.Booleans.{both_true}
use Rattle.space.specs.Octets.{Octets}
use Rattle.name.specs.Answer.{answer}
use Rattle.name.proofs.Answers.{answer_injective}
use Rattle.checks.specs.Under.{is_under}
use Rattle.neighbour.specs.Nearest.{Question}
use Rattle.encloser.specs.Wildcard.{wildcard_name}
use Rattle.covering.specs.NextCloser.{is_proper, next_closer_of}
use Rattle.covering.specs.Denials.{Proper}
use Rattle.covering.proofs.Closers.{true_proper}
use Rattle.gaps.specs.Denial.{gaps_of, denial_of}
use Rattle.gaps.proofs.Lines.{if_answered, checks_answered}
-- passed on, so that a wrong denial is refused at an example before any law of it is tried
pub use Rattle.gaps.proofs.Examples.{two_gaps_lem, behind_wildcard, before_wildcard, wildcard_itself, next_closer_denied}
pub use Rattle.gaps.proofs.Examples.{no_encloser, outside_first}

-- what an answer tells
pub record Answered (apex : List ℕ) (limit : ℕ) (encloser query : List ℕ) (names : List (List ℕ)) : Type 0 where
  pub question : Question apex limit query
  pub proper : Proper encloser query
  pub under : is_under apex encloser ≡ true
  pub are : names ≡ gaps_of apex limit (next_closer_of encloser query) (wildcard_name encloser)

pub denial_answered : (apex : List ℕ) (limit : ℕ) (encloser query : List ℕ) (names : List (List ℕ)) → Octets apex → Octets query
    → denial_of apex limit encloser query ≡ answer names → Answered apex limit encloser query names
denial_answered apex limit encloser query names o p e =
    let c = checks_answered apex limit query _ o p e in
    let d = if_answered (not (is_proper encloser query && is_under apex encloser)) 18 _ c.1 in
    let t = not-false (is_proper encloser query && is_under apex encloser) d.0 in
    let b = both_true (is_proper encloser query) (is_under apex encloser) t in
    record { question = c.0; proper = true_proper encloser query b.0; under = b.1; are = sym (answer_injective d.1) }
