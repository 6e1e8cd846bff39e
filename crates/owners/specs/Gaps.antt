-- The gap of a query in a list (document 02, Six): the owner that is found and the next one, the apex after the last, enclose the query, or
-- the owner is the query.
use Rattle.std.specs.Prelude.{◌≡◌, List, [], ◌⊎◌, ℕ, ◌+◌, ◌<◌, length, get_or}
use Rattle.name.specs.Answer.{Result, answer}
use Rattle.space.specs.Fold.{folded}
use Rattle.encloser.specs.Closest.{InGap}
use Rattle.owners.specs.declared.Found.{Found}
use Rattle.owners.specs.declared.Found.TheVariants.{Owner}

-- the next owner, and after the last one the first, which is the apex
abbrev pub next_of : List (List ℕ) → ℕ → List ℕ
next_of owners i = get_or owners (i + 1) (get_or owners 0 [])

pub record Encloses (owners : List (List ℕ)) (query : List ℕ) (result : Result Found) : Type 0 where
  pub index : ℕ
  pub count : ℕ
  pub found : result ≡ answer (Owner index count)
  pub within : index < length owners
  pub encloses : (folded query ≡ get_or owners index []) ⊎ InGap query (get_or owners index []) (next_of owners index)
