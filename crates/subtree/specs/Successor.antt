-- The subtree successor of a name: the checks 1 to 6 and 12 in rising number, and the answer by the steps at the depth that the name itself
-- has, so that no label goes in front of it. That this is the first name of the zone after it and all names under it is a law
-- (specs/Past).
use Rattle.std.specs.Prelude.{List, ℕ, ◌-◌, length}
use Rattle.name.specs.Answer.{Result, answer}
use Rattle.zone.specs.Steps.{successor_steps}
use Rattle.checks.specs.Under.{above, under}
use Rattle.checks.specs.Checks.{checks}
use Rattle.alphabet.specs.declared.Alphabet.{Alphabet}
use Rattle.alphabet.specs.Alphabets.{allowed}
use Rattle.plan.specs.Spelled.{spelled_check}

abbrev pub subtree_successor_in : Alphabet → List ℕ → ℕ → List ℕ → Result (List ℕ)
subtree_successor_in alphabet apex limit name =
    checks apex limit name
    (spelled_check alphabet apex name
    (answer (under apex (successor_steps (allowed alphabet) (limit - length apex) (length (above apex name)) (above apex name)))))
