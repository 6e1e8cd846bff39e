-- The modified neighbours of a name (document 01, "Modified neighbours"; RFC 4471 section 3.2; document 02, request Four): the checks 1 to
-- 7 in rising number, and the answer by the same steps at depth 1, that of the apex too. The members at that depth are document 01's short
-- set: the apex and the members with exactly one label more. In a zone that keeps to an alphabet (request Eight) the check 12 comes after
-- 7.
use Rattle.std.specs.Prelude.{List, Bool, ◌||◌, ℕ, ◌+◌, ◌-◌, ◌*◌, ltb, length}
use Rattle.name.specs.Answer.{Result, answer, refuse_if}
use Rattle.order.specs.Place.{full}
use Rattle.zone.specs.Steps.{successor_steps, predecessor_steps}
use Rattle.checks.specs.Under.{above, under}
use Rattle.checks.specs.Checks.{checks, modified_checks}
use Rattle.alphabet.specs.declared.Alphabet.{Alphabet}
use Rattle.alphabet.specs.Alphabets.{allowed}
use Rattle.plan.specs.Spelled.{spelled_check}

abbrev pub modified_successor_of : List ℕ → ℕ → List ℕ → Result (List ℕ)
modified_successor_of apex limit name =
    modified_checks apex limit name (answer (under apex (successor_steps full (limit - length apex) 1 (above apex name))))

abbrev pub modified_predecessor_of : List ℕ → ℕ → List ℕ → Result (List ℕ)
modified_predecessor_of apex limit name =
    modified_checks apex limit name (answer (under apex (predecessor_steps full (limit - length apex) 1 (above apex name))))

-- 7, at a depth of 1 to 3 (request Ten): A plus 64 for each label of depth is above the limit; any other depth is refused too
abbrev pub no_depth : ℕ → List ℕ → ℕ → Bool
no_depth depth apex limit = (ltb depth 1 || ltb 3 depth) || ltb limit (length apex + 64 * depth)

abbrev pub modified_successor_in : Alphabet → ℕ → List ℕ → ℕ → List ℕ → Result (List ℕ)
modified_successor_in alphabet depth apex limit name =
    checks apex limit name
    (refuse_if (no_depth depth apex limit) 7
    (spelled_check alphabet apex name
    (answer (under apex (successor_steps (allowed alphabet) (limit - length apex) depth (above apex name))))))

abbrev pub modified_predecessor_in : Alphabet → ℕ → List ℕ → ℕ → List ℕ → Result (List ℕ)
modified_predecessor_in alphabet depth apex limit name =
    checks apex limit name
    (refuse_if (no_depth depth apex limit) 7
    (spelled_check alphabet apex name
    (answer (under apex (predecessor_steps (allowed alphabet) (limit - length apex) depth (above apex name))))))
