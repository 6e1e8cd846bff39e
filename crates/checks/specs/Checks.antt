-- The checks before a neighbour is looked for (document 01, "When there is no answer"), in rising number: past them comes what is asked
-- for. 3 is document 02's, request Thirteen: the limit leaves no room for a name under the apex.
use Rattle.std.specs.Prelude.{List, ◌||◌, not, ℕ, ◌+◌, length, ltb}
use Rattle.name.specs.Wire.{reading_of}
use Rattle.name.specs.Answer.{Result, refuse_if, refuse_broken}
use Rattle.checks.specs.Under.{is_under}

-- the refusals 1 to 6, each line its condition
abbrev pub checks : {A : Type 0} → List ℕ → ℕ → List ℕ → Result A → Result A
checks apex limit name next =
    refuse_if (ltb limit 1 || ltb 255 limit) 1
    (refuse_broken (reading_of apex) 2
    (refuse_if (ltb limit (length apex + 2)) 3
    (refuse_broken (reading_of name) 4
    (refuse_if (ltb limit (length name)) 5
    (refuse_if (not (is_under apex name)) 6 next)))))

-- the refusals 1 to 7, each line its condition
abbrev pub modified_checks : {A : Type 0} → List ℕ → ℕ → List ℕ → Result A → Result A
modified_checks apex limit name next =
    checks apex limit name
    (refuse_if (ltb limit (length apex + 64)) 7 next)
