-- The lookup's halving (document 02, Six), over any list: it looks at the lower half of the sum of the two ends of a stretch of indexes, of
-- which the upper one is excluded, and goes on above it if the owner there is not after the query, else below it, until none is left.
use Rattle.std.specs.Prelude.{List, [], ◌∷◌, Bool, cond, ℕ, zero, suc, ◌+◌, ◌/◌, ltb, Ok, Err}
use Rattle.name.specs.Wire.{Reading}
use Rattle.name.specs.Wire.{reading_of}
use Rattle.name.specs.Answer.{Result, answer, refusal}
use Rattle.encloser.specs.Gap.{is_before}
use Rattle.owners.specs.declared.Look.{Look}
use Rattle.owners.specs.declared.Look.TheVariants.{NotAfter, After, Broken}
use Rattle.owners.specs.declared.Found.{Found}
use Rattle.owners.specs.declared.Found.TheVariants.{Owner, NoOwner}

-- ---- one look

abbrev pub seen : Reading → Bool → Look
seen (Ok _) is_after = cond is_after After NotAfter
seen (Err f) is_after = Broken

-- what an owner tells of the query
abbrev pub look_at : List ℕ → List ℕ → Look
look_at query owner = seen (reading_of owner) (is_before query owner)

-- ---- what is found

-- the number of owners looked at
abbrev pub looks : Found → ℕ
looks (Owner i n) = n
looks (NoOwner n) = n

-- the same, after one look more
abbrev pub looked_again : Found → Found
looked_again (Owner i n) = Owner i (n + 1)
looked_again (NoOwner n) = NoOwner (n + 1)

-- ---- the halving

-- by what is seen at the index i: on above it, on below it, or 16 with the index
abbrev pub go_on : Look → ℕ → Result Found → Result Found → Result Found
go_on NotAfter i above below = above
go_on After i above below = below
go_on Broken i above below = refusal 16 (i ∷ [])

module _ (look : ℕ → Look) where
  -- at most n looks at the indexes from `low` on and below `high`, with what is found before
  unfoldable pub halve : ℕ → ℕ → ℕ → Found → Result Found
  halve zero low high found = answer found
  halve (suc n) low high found =
      cond (ltb low high)
      (go_on (look ((low + high) / 2)) ((low + high) / 2)
      (halve n ((low + high) / 2 + 1) high (Owner ((low + high) / 2) (looks found + 1)))
      (halve n low ((low + high) / 2) (looked_again found)))
      (answer found)

  -- a list of so many owners has no more looks than owners
  abbrev pub halving : ℕ → Result Found
  halving owners = halve owners 0 owners (NoOwner 0)
