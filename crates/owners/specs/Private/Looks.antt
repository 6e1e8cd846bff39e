-- One look by the comparison of two names: its number is positive where the owner is after the query. And what is found, by the lower end
-- of the indexes that are left.
use Rattle.std.specs.Prelude.{List, Bool, true, false, cond, ℕ, zero, suc, ℤ, pos, negsuc, Ok, Err}
use Rattle.name.specs.Wire.{Reading}
use Rattle.name.specs.Wire.{reading_of}
use Rattle.name.specs.Answer.{Result, answer, refusal}
use Rattle.owners.specs.declared.Look.{Look}
use Rattle.owners.specs.declared.Look.TheVariants.{NotAfter, After, Broken}
use Rattle.owners.specs.declared.Found.{Found}
use Rattle.owners.specs.declared.Found.TheVariants.{Owner, NoOwner}
use Rattle.owners.specs.Halving.{look_at}

abbrev pub is_positive : ℤ → Bool
is_positive (pos zero) = false
is_positive (pos (suc n)) = true
is_positive (negsuc n) = false

-- what the comparison of an owner with a query tells
abbrev pub told_by : Result ℤ → Look
told_by (answer z) = cond (is_positive z) After NotAfter
told_by (refusal n vs) = Broken

-- where the query is no name, as of an owner that is none
abbrev pub of_query : Reading → Look → Look
of_query (Ok _) look = look
of_query (Err f) look = Broken

abbrev pub look_from : List ℕ → List ℕ → Look
look_from query owner = of_query (reading_of query) (look_at query owner)

-- what is found where the owners below an index are not after the query: the one before it
abbrev pub found_below : ℕ → ℕ → Found
found_below zero n = NoOwner n
found_below (suc i) n = Owner i n
