-- The absolute neighbours of a name (document 01, "Absolute neighbours"): the checks 1 to 6 in rising number, and the answer by the steps
-- of RFC 4471 section 3.1 as document 01 corrects them. That these are the nearest members of the zone is a law of the crate `zone`. In a
-- zone that keeps to an alphabet (document 02, request Eight) the check 12 comes after them, and the steps are those of the alphabet.
use Rattle.std.specs.Prelude.{List, ℕ, ◌-◌, length}
use Rattle.name.specs.Answer.{Result, answer}
use Rattle.order.specs.Place.{full}
use Rattle.zone.specs.Steps.{successor_steps, predecessor_steps}
use Rattle.checks.specs.Under.{above, under}
use Rattle.checks.specs.Checks.{checks}
use Rattle.alphabet.specs.declared.Alphabet.{Alphabet}
use Rattle.alphabet.specs.Alphabets.{allowed}
use Rattle.plan.specs.Spelled.{spelled_check}

-- the most labels that a name has, so that the depth allows them all
abbrev pub all_labels : ℕ
all_labels = 127

abbrev pub successor_of : List ℕ → ℕ → List ℕ → Result (List ℕ)
successor_of apex limit name =
    checks apex limit name (answer (under apex (successor_steps full (limit - length apex) all_labels (above apex name))))

abbrev pub predecessor_of : List ℕ → ℕ → List ℕ → Result (List ℕ)
predecessor_of apex limit name =
    checks apex limit name (answer (under apex (predecessor_steps full (limit - length apex) all_labels (above apex name))))

abbrev pub successor_in : Alphabet → List ℕ → ℕ → List ℕ → Result (List ℕ)
successor_in alphabet apex limit name =
    checks apex limit name
    (spelled_check alphabet apex name
    (answer (under apex (successor_steps (allowed alphabet) (limit - length apex) all_labels (above apex name)))))

abbrev pub predecessor_in : Alphabet → List ℕ → ℕ → List ℕ → Result (List ℕ)
predecessor_in alphabet apex limit name =
    checks apex limit name
    (spelled_check alphabet apex name
    (answer (under apex (predecessor_steps (allowed alphabet) (limit - length apex) all_labels (above apex name)))))
