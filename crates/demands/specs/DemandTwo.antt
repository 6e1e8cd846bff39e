-- Demand 2 of document 00, the neighbours of a name, with the modified neighbours as document 02's request Four has them and without zones
-- of one name (request Thirteen), over the definitions that the contracts of the four neighbour operations cite. Each part is one of its
-- clauses.
use Rattle.std.specs.Prelude.{◌≡◌, List, ◌∷◌, ◌++◌, true, ◌⊎◌, ◌↔◌, ℕ, ◌+◌, ◌≤◌, length, replicate}
use Rattle.name.specs.Labels.{labels_of}
use Rattle.space.specs.Fold.{folded}
use Rattle.name.specs.Answer.{answer}
use Rattle.order.specs.Order.{SortsBefore, folded_labels}
use Rattle.checks.specs.Under.{is_under, more}
use Rattle.neighbour.specs.Neighbour.{successor_of, predecessor_of}
use Rattle.neighbour.specs.Modified.{modified_successor_of, modified_predecessor_of}
use Rattle.neighbour.specs.ShortSet.{InShortSet}
use Rattle.neighbour.specs.Nearest.{Question, InZone, LeastAfter, GreatestBefore}

pub record DemandTwo : Type 0 where
  -- a name is at or under the apex when its last labels, folded, equal all the apex's labels
  pub under : (apex name : List ℕ) → is_under apex name ≡ true ↔ (ls : List (List ℕ)) × (folded_labels name ≡ ls ++ folded_labels apex)
  -- every such question gets an answer, given room
  pub successor_answered : (apex : List ℕ) (limit : ℕ) (name : List ℕ) → Question apex limit name
      → (a : List ℕ) × (successor_of apex limit name ≡ answer a)
  pub predecessor_answered : (apex : List ℕ) (limit : ℕ) (name : List ℕ) → Question apex limit name
      → (a : List ℕ) × (predecessor_of apex limit name ≡ answer a)
  -- the absolute successor is the next valid folded name of that zone, or the apex after the last one
  pub successor : (apex : List ℕ) (limit : ℕ) (name a : List ℕ) → Question apex limit name → successor_of apex limit name ≡ answer a
      → LeastAfter (InZone apex limit) apex name a
  -- the absolute predecessor is the one before it, or the last one before the apex
  pub predecessor : (apex : List ℕ) (limit : ℕ) (name a : List ℕ) → Question apex limit name → predecessor_of apex limit name ≡ answer a
      → GreatestBefore (InZone apex limit) name a
  -- the absolute predecessor of the successor is the folded name again, the apex included, and the other way round
  pub successor_back : (apex : List ℕ) (limit : ℕ) (name a : List ℕ) → Question apex limit name → successor_of apex limit name ≡ answer a
      → predecessor_of apex limit a ≡ answer (folded name)
  pub predecessor_back : (apex : List ℕ) (limit : ℕ) (name a : List ℕ) → Question apex limit name
      → predecessor_of apex limit name ≡ answer a → successor_of apex limit a ≡ answer (folded name)
  -- the modified answers, given for every name of the zone where the apex leaves 64 octets to spare, are the nearest before and after it
  -- in the short set as a ring: the apex after its last name, and its last name before the apex
  pub modified_answered : (apex : List ℕ) (limit : ℕ) (name : List ℕ) → Question apex limit name → length apex + 64 ≤ limit
      → ((a : List ℕ) × (modified_successor_of apex limit name ≡ answer a))
      × ((a : List ℕ) × (modified_predecessor_of apex limit name ≡ answer a))
  pub modified_successor : (apex : List ℕ) (limit : ℕ) (name a : List ℕ) → Question apex limit name
      → modified_successor_of apex limit name ≡ answer a → LeastAfter (InShortSet apex limit) apex name a
  pub modified_predecessor : (apex : List ℕ) (limit : ℕ) (name a : List ℕ) → Question apex limit name
      → modified_predecessor_of apex limit name ≡ answer a → GreatestBefore (InShortSet apex limit) name a
  -- on the names of the short set each undoes the other
  pub modified_successor_back : (apex : List ℕ) (limit : ℕ) (name a : List ℕ) → Question apex limit name → more apex name ≤ 1
      → modified_successor_of apex limit name ≡ answer a → modified_predecessor_of apex limit a ≡ answer (folded name)
  pub modified_predecessor_back : (apex : List ℕ) (limit : ℕ) (name a : List ℕ) → Question apex limit name → more apex name ≤ 1
      → modified_predecessor_of apex limit name ≡ answer a → modified_successor_of apex limit a ≡ answer (folded name)
  -- after the apex comes the label \000 above it, before it the label of 63 octets 255
  pub modified_apex_successor : (apex : List ℕ) (limit : ℕ) (name : List ℕ) → Question apex limit name → length apex + 64 ≤ limit
      → more apex name ≡ 0 → modified_successor_of apex limit name ≡ answer (1 ∷ 0 ∷ folded apex)
  pub modified_apex_predecessor : (apex : List ℕ) (limit : ℕ) (name : List ℕ) → Question apex limit name → length apex + 64 ≤ limit
      → more apex name ≡ 0 → modified_predecessor_of apex limit name ≡ answer (63 ∷ replicate 63 255 ++ folded apex)
  -- the short set is the apex and the members with exactly one label more
  pub short_set : (apex : List ℕ) (limit : ℕ) (name u : List ℕ) → Question apex limit name
      → InShortSet apex limit u
      ↔ InZone apex limit u × ((u ≡ folded apex) ⊎ (length (labels_of u) ≡ length (labels_of apex) + 1))
  -- every neighbour is another name than the one that is asked for
  pub successor_other : (apex : List ℕ) (limit : ℕ) (name a : List ℕ) → Question apex limit name
      → successor_of apex limit name ≡ answer a → a ≡ folded name → ⊥
  pub predecessor_other : (apex : List ℕ) (limit : ℕ) (name a : List ℕ) → Question apex limit name
      → predecessor_of apex limit name ≡ answer a → a ≡ folded name → ⊥
  pub modified_successor_other : (apex : List ℕ) (limit : ℕ) (name a : List ℕ) → Question apex limit name
      → modified_successor_of apex limit name ≡ answer a → a ≡ folded name → ⊥
  pub modified_predecessor_other : (apex : List ℕ) (limit : ℕ) (name a : List ℕ) → Question apex limit name
      → modified_predecessor_of apex limit name ≡ answer a → a ≡ folded name → ⊥
  -- the apex is a member of the zone, and its least
  pub apex_member : (apex : List ℕ) (limit : ℕ) (name : List ℕ) → Question apex limit name → InZone apex limit (folded apex)
  pub apex_least : (apex : List ℕ) (limit : ℕ) (name u : List ℕ) → Question apex limit name → InZone apex limit u → SortsBefore u apex → ⊥
