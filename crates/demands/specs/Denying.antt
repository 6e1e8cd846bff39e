-- Denials, over the definitions that the contracts of their operations cite: the subtree successor of a name with its lines, what the gaps
-- of a zone cover, how a gap is read, the next closer name, and the denial of a missing query with its lines.
use Rattle.std.specs.Prelude.{◌≡◌, List, [], true, ℕ, ◌-◌, ◌<◌, length}
use Rattle.space.specs.Octets.{Octets}
use Rattle.name.specs.Answer.{Result, answer, refusal, fitted}
use Rattle.zone.specs.Steps.{successor_steps}
use Rattle.alphabet.specs.declared.Alphabet.{Alphabet}
use Rattle.alphabet.specs.Alphabets.{allowed}
use Rattle.checks.specs.Under.{is_under, above, under}
use Rattle.neighbour.specs.Nearest.{QuestionIn}
use Rattle.subtree.specs.Successor.{subtree_successor_in}
use Rattle.subtree.specs.Past.{SubtreeSuccessors}
use Rattle.encloser.specs.Wildcard.{wildcard_name}
use Rattle.covering.specs.NextCloser.{next_closer_of}
use Rattle.covering.specs.Denials.{Proper, Denials}
use Rattle.gaps.specs.Gaps.{Gaps}
use Rattle.gaps.specs.Denial.{gaps_of, denial_of}
use Rattle.gaps.specs.Denies.{joined, lengths, measured}
use Rattle.gaps.specs.DenialGaps.{DenialGaps}
use Rattle.demands.specs.Lines.{Line}
use Rattle.demands.specs.DemandOne.{NeighbourLines, AbsoluteLinesIn}

-- 18: the encloser is no proper ancestor of the query, or not at or under the apex
abbrev pub NoEncloser : List ℕ → List ℕ → List ℕ → Type 0
NoEncloser apex encloser query = Proper encloser query → is_under apex encloser ≡ true → ⊥

-- 1 to 6, 18, then 9 where the names together are longer than the space, otherwise their lengths
abbrev pub DenialLines : Result ℕ → List ℕ → ℕ → List ℕ → List ℕ → ℕ → List (List ℕ) → Type 0
DenialLines result apex limit encloser query room names =
    NeighbourLines result apex limit query
    (Line result (refusal 18 []) (NoEncloser apex encloser query)
    (Line result (refusal 9 []) (room < length (joined names)) (result ≡ answer (lengths names))))

pub record Denying : Type 0 where
  -- the subtree successor is the first name of the zone past a name and all names under it, with 1 to 6, 12, then 9
  pub subtree : SubtreeSuccessors
  pub subtree_lines : (alphabet : Alphabet) (apex : List ℕ) (limit : ℕ) (name : List ℕ) (room : ℕ)
      → AbsoluteLinesIn alphabet (fitted room (subtree_successor_in alphabet apex limit name)) apex limit name room
      (under apex (successor_steps (allowed alphabet) (limit - length apex) (length (above apex name)) (above apex name)))
  -- what the gaps around a name of the zone cover
  pub gaps : (alphabet : Alphabet) (apex : List ℕ) (limit : ℕ) (name : List ℕ) → QuestionIn alphabet apex limit name
      → Gaps alphabet apex limit name
  -- whether a gap covers a name, and the next closer name of a query
  pub reading : Denials
  -- the names that deny a query: what their gaps cover, and when there are none
  pub denial : (apex : List ℕ) (limit : ℕ) (encloser query : List ℕ) (names : List (List ℕ)) → Octets apex → Octets encloser → Octets query
      → denial_of apex limit encloser query ≡ answer names → DenialGaps apex limit encloser query names
  pub denial_lines : (apex : List ℕ) (limit : ℕ) (encloser query : List ℕ) (room : ℕ)
      → DenialLines (measured room (denial_of apex limit encloser query)) apex limit encloser query room
      (gaps_of apex limit (next_closer_of encloser query) (wildcard_name encloser))
