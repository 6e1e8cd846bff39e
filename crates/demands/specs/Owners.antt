-- Requests Six and Thirteen of document 02, zones that have a list, over the definitions that the contracts of the check and of the lookup
-- cite. They are stated for any most owners, most octets and number of looks, and hold for those of document 02.
use Rattle.std.specs.Prelude.{◌≡◌, true, ℕ, ◌+◌, ◌≤◌, ◌<◌, length, take, Ok}
use mathlib.Core.List.{List, [], ◌∷◌, Memᴰ}
use Rattle.name.specs.Wire.{reading_of}
use Rattle.name.specs.Answer.{answer, refusal, refuse_broken}
use Rattle.space.specs.Octets.{Octets}
use Rattle.space.specs.Fold.{folded}
use Rattle.checks.specs.Under.{is_under}
use Rattle.owners.specs.declared.Found.{Found}
use Rattle.owners.specs.declared.Found.TheVariants.{NoOwner}
use Rattle.owners.specs.Layout.{owners_of}
use Rattle.owners.specs.Sizes.{most_owners, most_octets, is_too_large}
use Rattle.owners.specs.Lists.{IsList, joined, starts_from, LaysOut}
use Rattle.owners.specs.Gaps.{Encloses}
use Rattle.owners.specs.Halving.{looks, halve}
use Rattle.owners.specs.Answers.{refuse_at, look_in, check_within, find_within}

-- for lists of so many owners and so many octets of names, and lookups of so many looks
pub record ListsOf (owners octets most : ℕ) : Type 0 where
  -- what is accepted is the apex and folded members of the zone that strictly rise, laid out back to back, within the sizes
  pub is_list : (apex : List ℕ) (limit : ℕ) (names starts : List ℕ) (n : ℕ) → Octets names
      → check_within owners octets apex limit names starts ≡ answer n → IsList apex limit (owners_of names starts)
  pub is_laid_out : (apex : List ℕ) (limit : ℕ) (names starts : List ℕ) (n : ℕ)
      → check_within owners octets apex limit names starts ≡ answer n
      → LaysOut (owners_of names starts) names starts × (n ≡ length starts) × (length starts ≤ owners) × (length names ≤ octets)
  -- and every such list is accepted
  pub accepted : (apex : List ℕ) (limit : ℕ) (os : List (List ℕ)) → 1 ≤ limit → limit ≤ 255 → reading_of apex ≡ Ok tt
      → length apex + 2 ≤ limit → IsList apex limit os → length os ≤ owners → length (joined os) ≤ octets
      → check_within owners octets apex limit (joined os) (starts_from 0 os) ≡ answer (length os)
  -- so that a set of owners has no second list
  pub only_list : (apex : List ℕ) (limit : ℕ) (os ps : List (List ℕ)) → IsList apex limit os → IsList apex limit ps
      → ((name : List ℕ) → Memᴰ name os → Memᴰ name ps) → ((name : List ℕ) → Memᴰ name ps → Memᴰ name os) → os ≡ ps
  -- the index beside 16, where it is not 0, is that of the first owner that breaks the list: those before it are a list, and with it they
  -- are none
  pub first_breaks : (apex : List ℕ) (limit : ℕ) (names starts : List ℕ) (i : ℕ) → Octets names → 1 ≤ i
      → check_within owners octets apex limit names starts ≡ refusal 16 (i ∷ [])
      → (i < length starts) × IsList apex limit (take i (owners_of names starts))
      × (IsList apex limit (take (i + 1) (owners_of names starts)) → ⊥)
  -- a lookup never looks at more owners, also where one of them is broken
  pub few_looks : (names starts query : List ℕ) (f : Found) → find_within owners octets names starts query ≡ answer f → looks f ≤ most
  pub no_more_looks : (names starts query : List ℕ) → find_within owners octets names starts query
      ≡ refuse_broken (reading_of query) 4
      (refuse_at (is_too_large owners octets names starts) 0
      (halve (look_in (owners_of names starts) query) most 0 (length starts) (NoOwner 0)))
  -- on a checked list and a query of the zone, the owner and the next one enclose the query, or the owner is the query
  pub encloses : (apex : List ℕ) (limit : ℕ) (names starts : List ℕ) (n : ℕ) → check_within owners octets apex limit names starts ≡ answer n
      → (query : List ℕ) → reading_of query ≡ Ok tt → is_under apex query ≡ true
      → Encloses (owners_of names starts) query (find_within owners octets names starts query)
  -- letter case counts in the owners of a check alone
  pub any_case : (names starts query : List ℕ)
      → find_within owners octets (folded names) starts (folded query) ≡ find_within owners octets names starts query
  pub any_apex_case : (apex : List ℕ) (limit : ℕ) (names starts : List ℕ)
      → check_within owners octets (folded apex) limit names starts ≡ check_within owners octets apex limit names starts

-- the requests: up to 16,384 owners, 4 MiB of octets and 15 looks
abbrev pub Owners : Type 0
Owners = ListsOf most_owners most_octets 15
