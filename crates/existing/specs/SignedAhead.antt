-- Zones that are signed ahead, with a list of their owners: where the check accepts a list, no gap of it denies a name that exists, and the
-- gap that the lookup finds for a query denies it exactly where it does not exist. The encloser that is read off this gap is the closest
-- one of the whole zone, so that no wildcard but the one above it could answer.
use Rattle.std.specs.Prelude.{◌≡◌, true, false, ◌↔◌, ℕ, ◌<◌, length, get_or, Ok}
use mathlib.Core.List.{List, [], Memᴰ}
use Rattle.name.specs.Wire.{reading_of}
use Rattle.name.specs.Answer.{Result, answer, refusal}
use Rattle.space.specs.Fold.{folded}
use Rattle.checks.specs.Under.{is_under}
use Rattle.encloser.specs.Encloser.{closest_of}
use Rattle.encloser.specs.Wildcard.{wildcard_name, wildcard_of}
use Rattle.covering.specs.Between.{covers_of}
use Rattle.owners.specs.declared.Found.{Found}
use Rattle.owners.specs.declared.Found.TheVariants.{Owner}
use Rattle.owners.specs.Gaps.{next_of}
use Rattle.existing.specs.Existing.{Exists, IsClosest}
use Rattle.existing.specs.Denied.{IsDenied}
use Rattle.existing.specs.Expanded.{Expanded}

-- the name is an owner, letter case aside
abbrev pub IsOwner : List (List ℕ) → List ℕ → Type 0
IsOwner owners name = (owner : List ℕ) × Memᴰ owner owners × (folded owner ≡ folded name)

-- the name is at or under the apex, and no owner: an empty non-terminal, or one that does not exist
pub record NotListed (apex : List ℕ) (owners : List (List ℕ)) (name : List ℕ) : Type 0 where
  pub whole : reading_of name ≡ Ok tt
  pub under : is_under apex name ≡ true
  pub other : IsOwner owners name → ⊥

-- the gap from an owner to the next one, as a resolver reads its NSEC record
pub record ListGap (apex : List ℕ) (owners : List (List ℕ)) (owner next : List ℕ) : Type 0 where
  -- it covers no owner
  pub no_owner : (name : List ℕ) → Memᴰ name owners → covers_of owner next name ≡ false
  -- and denies no name that exists
  pub no_existing : (name : List ℕ) → Exists apex owners name → IsDenied owner next name → ⊥

-- the gap of a query that is not listed, and the encloser that is read off it
pub record QueryGap (apex : List ℕ) (owners : List (List ℕ)) (query owner next : List ℕ) : Type 0 where
  -- it covers the query, and denies it exactly where it does not exist
  pub covered : covers_of owner next query ≡ true
  pub denied : IsDenied owner next query ↔ (Exists apex owners query → ⊥)
  -- the encloser is the closest one in the zone: the query itself, letter case aside, exactly where the query exists
  pub closest : IsClosest apex owners query (closest_of query owner next)
  pub itself : (folded (closest_of query owner next) ≡ folded query) ↔ Exists apex owners query
  -- only the wildcard above it would be expanded, letter case aside: where that one is no owner, no owner would be, and where it does not
  -- exist, nothing that exists would be
  pub one_wildcard : (wildcard : List ℕ) → Expanded apex owners query wildcard
      → folded wildcard ≡ folded (wildcard_name (closest_of query owner next))
  pub nothing_answers : (IsOwner owners (wildcard_name (closest_of query owner next)) → ⊥)
      → (wildcard : List ℕ) → Expanded apex owners query wildcard → IsOwner owners wildcard → ⊥
  pub nothing_expands : (Exists apex owners (wildcard_name (closest_of query owner next)) → ⊥)
      → (wildcard : List ℕ) → Expanded apex owners query wildcard → Exists apex owners wildcard → ⊥
  -- that one, where it is no owner, is not listed either, so that it has its gap; and one that is too long for a name is no owner
  pub wildcard : (name : List ℕ) → wildcard_of (closest_of query owner next) ≡ answer name → (IsOwner owners name → ⊥)
      → NotListed apex owners name
  pub too_long : wildcard_of (closest_of query owner next) ≡ refusal 5 [] → IsOwner owners (wildcard_name (closest_of query owner next)) → ⊥

-- the owners of a list that the check accepts, and what the lookup finds in it for a query
pub record SignedAhead (apex : List ℕ) (owners : List (List ℕ)) (lookup : List ℕ → Result Found) : Type 0 where
  -- every gap of the list
  pub gaps : (i : ℕ) → i < length owners → ListGap apex owners (get_or owners i []) (next_of owners i)
  -- for an owner, in any letter case, the lookup finds that owner
  pub listed : (query : List ℕ) → IsOwner owners query
      → (i : ℕ) × (looks : ℕ) × (lookup query ≡ answer (Owner i looks)) × (get_or owners i [] ≡ folded query)
  -- for any other query of the zone the lookup finds the query's gap
  pub not_listed : (query : List ℕ) → NotListed apex owners query
      → (i : ℕ) × (looks : ℕ) × (lookup query ≡ answer (Owner i looks)) × QueryGap apex owners query (get_or owners i []) (next_of owners i)
