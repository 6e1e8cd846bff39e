-- Requests Eight and Ten of document 02, zones of letters, digits and hyphens, and short sets two and three labels deep: demand 2 over the
-- alphabet of the zone and the depth of the short set, and what the two alphabets are. Over the definitions that the contracts of the
-- neighbour operations cite; each part is one sentence.
use Rattle.std.specs.Prelude.{◌≡◌, List, ◌∷◌, ◌++◌, true, ◌⊎◌, ◌↔◌, ℕ, suc, ◌+◌, ◌*◌, ◌≤◌, ◌<◌, T, length, replicate, get_or}
use Rattle.space.specs.Fold.{folded}
use Rattle.name.specs.Answer.{answer}
use Rattle.zone.specs.Steps.{least, greatest}
use Rattle.alphabet.specs.declared.Alphabet.{Alphabet}
use Rattle.alphabet.specs.declared.Alphabet.TheVariants.{Full, Ldh}
use Rattle.alphabet.specs.Alphabets.{ldh, allowed, all_spelled}
use Rattle.checks.specs.Under.{more, above}
use Rattle.neighbour.specs.Neighbour.{successor_of, predecessor_of, successor_in, predecessor_in}
use Rattle.neighbour.specs.Modified.{modified_successor_of, modified_predecessor_of, modified_successor_in, modified_predecessor_in}
use Rattle.neighbour.specs.ShortSet.{InShortSet, InShortSetOf}
use Rattle.neighbour.specs.Nearest.{QuestionIn, InZone, InZoneOf, LeastAfter, GreatestBefore}

-- 7 lets a depth of 1 to 3 pass where the limit leaves 64 octets above the apex for each label
pub record Deep (depth : ℕ) (apex : List ℕ) (limit : ℕ) : Type 0 where
  pub some : 1 ≤ depth
  pub most : depth ≤ 3
  pub fits : length apex + 64 * depth ≤ limit

-- demand 2, with the alphabet's members in the zone and in the short set
pub record NeighboursIn (alphabet : Alphabet) : Type 0 where
  -- every question that 12 lets pass gets an answer, given room
  pub successor_answered : (apex : List ℕ) (limit : ℕ) (name : List ℕ) → QuestionIn alphabet apex limit name
      → (a : List ℕ) × (successor_in alphabet apex limit name ≡ answer a)
  pub predecessor_answered : (apex : List ℕ) (limit : ℕ) (name : List ℕ) → QuestionIn alphabet apex limit name
      → (a : List ℕ) × (predecessor_in alphabet apex limit name ≡ answer a)
  -- the absolute successor is the next member, or the apex after the last one; the predecessor is the one before, or the last one
  pub successor : (apex : List ℕ) (limit : ℕ) (name a : List ℕ) → QuestionIn alphabet apex limit name
      → successor_in alphabet apex limit name ≡ answer a → LeastAfter (InZoneOf alphabet apex limit) apex name a
  pub predecessor : (apex : List ℕ) (limit : ℕ) (name a : List ℕ) → QuestionIn alphabet apex limit name
      → predecessor_in alphabet apex limit name ≡ answer a → GreatestBefore (InZoneOf alphabet apex limit) name a
  -- each undoes the other
  pub successor_back : (apex : List ℕ) (limit : ℕ) (name a : List ℕ) → QuestionIn alphabet apex limit name
      → successor_in alphabet apex limit name ≡ answer a → predecessor_in alphabet apex limit a ≡ answer (folded name)
  pub predecessor_back : (apex : List ℕ) (limit : ℕ) (name a : List ℕ) → QuestionIn alphabet apex limit name
      → predecessor_in alphabet apex limit name ≡ answer a → successor_in alphabet apex limit a ≡ answer (folded name)
  -- each is another name than the one that is asked for
  pub successor_other : (apex : List ℕ) (limit : ℕ) (name a : List ℕ) → QuestionIn alphabet apex limit name
      → successor_in alphabet apex limit name ≡ answer a → a ≡ folded name → ⊥
  pub predecessor_other : (apex : List ℕ) (limit : ℕ) (name a : List ℕ) → QuestionIn alphabet apex limit name
      → predecessor_in alphabet apex limit name ≡ answer a → a ≡ folded name → ⊥
  -- at each depth that 7 lets pass, the modified answers are the nearest in the short set of that depth as a ring, and on its names each
  -- undoes the other
  pub modified_answered : (depth : ℕ) (apex : List ℕ) (limit : ℕ) (name : List ℕ) → QuestionIn alphabet apex limit name
      → Deep depth apex limit
      → ((a : List ℕ) × (modified_successor_in alphabet depth apex limit name ≡ answer a))
      × ((a : List ℕ) × (modified_predecessor_in alphabet depth apex limit name ≡ answer a))
  pub modified_successor : (depth : ℕ) (apex : List ℕ) (limit : ℕ) (name a : List ℕ) → QuestionIn alphabet apex limit name
      → modified_successor_in alphabet depth apex limit name ≡ answer a → LeastAfter (InShortSetOf alphabet depth apex limit) apex name a
  pub modified_predecessor : (depth : ℕ) (apex : List ℕ) (limit : ℕ) (name a : List ℕ) → QuestionIn alphabet apex limit name
      → modified_predecessor_in alphabet depth apex limit name ≡ answer a → GreatestBefore (InShortSetOf alphabet depth apex limit) name a
  pub modified_successor_back : (depth : ℕ) (apex : List ℕ) (limit : ℕ) (name a : List ℕ) → QuestionIn alphabet apex limit name
      → more apex name ≤ depth → modified_successor_in alphabet depth apex limit name ≡ answer a
      → modified_predecessor_in alphabet depth apex limit a ≡ answer (folded name)
  pub modified_predecessor_back : (depth : ℕ) (apex : List ℕ) (limit : ℕ) (name a : List ℕ) → QuestionIn alphabet apex limit name
      → more apex name ≤ depth → modified_predecessor_in alphabet depth apex limit name ≡ answer a
      → modified_successor_in alphabet depth apex limit a ≡ answer (folded name)
  pub modified_successor_other : (depth : ℕ) (apex : List ℕ) (limit : ℕ) (name a : List ℕ) → QuestionIn alphabet apex limit name
      → modified_successor_in alphabet depth apex limit name ≡ answer a → a ≡ folded name → ⊥
  pub modified_predecessor_other : (depth : ℕ) (apex : List ℕ) (limit : ℕ) (name a : List ℕ) → QuestionIn alphabet apex limit name
      → modified_predecessor_in alphabet depth apex limit name ≡ answer a → a ≡ folded name → ⊥
  -- the appended octet is the least, and the padding octet the greatest: so of the apex, after which comes the least octet above it at any
  -- depth, and before which at depth 1 the label of 63 times the greatest
  pub modified_apex_successor : (depth : ℕ) (apex : List ℕ) (limit : ℕ) (name : List ℕ) → QuestionIn alphabet apex limit name
      → Deep depth apex limit → more apex name ≡ 0
      → modified_successor_in alphabet depth apex limit name ≡ answer (1 ∷ least (allowed alphabet) ∷ folded apex)
  pub modified_apex_predecessor : (apex : List ℕ) (limit : ℕ) (name : List ℕ) → QuestionIn alphabet apex limit name
      → length apex + 64 ≤ limit → more apex name ≡ 0
      → modified_predecessor_in alphabet 1 apex limit name ≡ answer (63 ∷ replicate 63 (greatest (allowed alphabet)) ++ folded apex)
  -- the apex is free: it is a member, whatever its octets
  pub apex_member : (apex : List ℕ) (limit : ℕ) (name : List ℕ) → QuestionIn alphabet apex limit name
      → InZoneOf alphabet apex limit (folded apex)

pub record Alphabets : Type 0 where
  -- proved once over both
  pub neighbours : (alphabet : Alphabet) → NeighboursIn alphabet
  -- the full alphabet gives document 01's answers, at depth 1 where a depth is asked for
  pub full_successor : (apex : List ℕ) (limit : ℕ) (name : List ℕ) → successor_in Full apex limit name ≡ successor_of apex limit name
  pub full_predecessor : (apex : List ℕ) (limit : ℕ) (name : List ℕ) → predecessor_in Full apex limit name ≡ predecessor_of apex limit name
  pub full_modified_successor : (apex : List ℕ) (limit : ℕ) (name : List ℕ)
      → modified_successor_in Full 1 apex limit name ≡ modified_successor_of apex limit name
  pub full_modified_predecessor : (apex : List ℕ) (limit : ℕ) (name : List ℕ)
      → modified_predecessor_in Full 1 apex limit name ≡ modified_predecessor_of apex limit name
  -- its zone is document 01's: 12 is never given
  pub full_zone : (apex : List ℕ) (limit : ℕ) (u : List ℕ) → InZoneOf Full apex limit u ↔ InZone apex limit u
  pub short_set : (apex : List ℕ) (limit : ℕ) (u : List ℕ) → InShortSetOf Full 1 apex limit u ↔ InShortSet apex limit u
  pub full_spelled : (apex name : List ℕ) → all_spelled Full (above apex name) ≡ true
  -- the smaller one is the thirty-seven octets in rising order: the hyphen, the digits, the letters
  pub thirty_seven : length ldh ≡ 37
  pub rising : (i : ℕ) → suc i < 37 → get_or ldh i 0 < get_or ldh (suc i) 0
  pub small : (o : ℕ) → o < 256 → T (allowed Ldh o) ↔ ((o ≡ 45) ⊎ ((48 ≤ o) × (o ≤ 57)) ⊎ ((97 ≤ o) × (o ≤ 122)))
  pub least_is : (least (allowed Full) ≡ 0) × (least (allowed Ldh) ≡ 45)
  pub greatest_is : (greatest (allowed Full) ≡ 255) × (greatest (allowed Ldh) ≡ 122)
