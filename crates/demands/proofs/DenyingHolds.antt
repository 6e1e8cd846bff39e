-- What is demanded of denials holds: its statements are proved in the crates subtree, gaps and covering, the lines of the subtree
-- successor are those of an absolute neighbour, and those of a denial are its tests, one after the other.
use mathlib.Core.Path.{◌≡◌, refl, sym, ◌∙◌}
use mathlib.Core.List.{List, []}
use mathlib.Core.Bool.{Bool, true, false, not, ◌&&◌, cond, true≢false}
use mathlib.Core.Logic.{inl, inr}
use Prim.Native.Nat.{ℕ, ◌-◌, ◌<◌}
use native.Mathlib.Omega.{arith}
use borrow.Author.Tests.{leb-true, leb-false, not-true, not-false}
use lib.Dec.{leb}
use lib.ListN.{length}
use Rattle.facts.proofs.Booleans.{both_true}
use Rattle.name.specs.Answer.{Result, answer, refusal}
use Rattle.zone.specs.Steps.{successor_steps}
use Rattle.alphabet.specs.Alphabets.{allowed}
use Rattle.checks.specs.Under.{is_under, above, under}
use Rattle.subtree.proofs.PastNames.{subtree_successors}
use Rattle.encloser.specs.Wildcard.{wildcard_name}
use Rattle.covering.specs.NextCloser.{is_proper, next_closer_of}
use Rattle.covering.proofs.Closers.{true_proper, proper_true}
use Rattle.covering.proofs.Denied.{denials}
use Rattle.gaps.specs.Denial.{gaps_of, denial_of}
use Rattle.gaps.specs.Denies.{joined, lengths, measured}
use Rattle.gaps.proofs.Gaps.{gaps}
use Rattle.checks.proofs.Mapped.{if_map, checks_map}
use Rattle.gaps.proofs.DenialGaps.{denial_gaps}
use Rattle.demands.specs.Lines.{Line}
use Rattle.demands.specs.Denying.{NoEncloser, DenialLines, Denying}
use Rattle.demands.proofs.Lines.{if_line}
use Rattle.demands.proofs.One.{neighbour_lines, absolute_lines_in}

-- 9, or the lengths
names_line : (room : ℕ) (names : List (List ℕ)) → let result = measured room (answer names) in
    Line result (refusal 9 []) (room < length (joined names)) (result ≡ answer (lengths names))
names_line room names = go (leb (length (joined names)) room) refl
  where
    go : (t : Bool) → leb (length (joined names)) room ≡ t → let result = cond t (answer (lengths names)) (refusal 9 []) in
        Line result (refusal 9 []) (room < length (joined names)) (result ≡ answer (lengths names))
    go true e = inr (λ h. omega (arith, leb-true (length (joined names)) room e, h), refl)
    go false e = inl (leb-false (length (joined names)) room e, refl)

module _ (apex : List ℕ) (limit : ℕ) (encloser query : List ℕ) where
  abbrev found : Bool
  found = is_proper encloser query && is_under apex encloser

  -- the test of 18
  no_encloser : not found ≡ true → NoEncloser apex encloser query
  no_encloser e p u =
      let f : found ≡ true = rw (proper_true encloser query p) u in
      true≢false (sym f ∙ not-true found e)

  an_encloser : not found ≡ false → NoEncloser apex encloser query → ⊥
  an_encloser e none =
      let b = both_true (is_proper encloser query) (is_under apex encloser) (not-false found e) in
      none (true_proper encloser query b.0) b.1

  denial_lines : (room : ℕ) → DenialLines (measured room (denial_of apex limit encloser query)) apex limit encloser query room
      (gaps_of apex limit (next_closer_of encloser query) (wildcard_name encloser))
  denial_lines room =
      let names : List (List ℕ) = gaps_of apex limit (next_closer_of encloser query) (wildcard_name encloser) in
      rw (
        checks_map (measured room) (λ n vs. refl) apex limit query _,
        if_map (measured room) (λ n vs. refl) (not found) 18 (answer names),
      )
      (neighbour_lines apex limit query _ (λ r. Line r (refusal 18 []) (NoEncloser apex encloser query) (room_line r names))
      (if_line (measured room (answer names)) (λ r. room_line r names) (names_line room names) (not found) 18
      (NoEncloser apex encloser query) no_encloser an_encloser))
    where
      room_line : Result ℕ → List (List ℕ) → Type 0
      room_line r names = Line r (refusal 9 []) (room < length (joined names)) (r ≡ answer (lengths names))

pub denying : Denying
denying =
    record {
      subtree = subtree_successors;
      subtree_lines = λ alphabet apex limit name room.
          absolute_lines_in alphabet apex limit name room
          (under apex (successor_steps (allowed alphabet) (limit - length apex) (length (above apex name)) (above apex name)));
      gaps = gaps;
      reading = denials;
      denial = denial_gaps;
      denial_lines = denial_lines;
    }
