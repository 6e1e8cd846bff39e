-- Zones whose denials are made on the spot (RFC 4470, RFC 4471), for any list of the names that they have: what is made up covers no name
-- that exists. So it is of the gaps of a whole denial, and of the gap between the neighbours of a name that is not listed.
use Rattle.std.specs.Prelude.{◌≡◌, true, false, ◌↔◌, ℕ, ◌≤◌, length, replicate}
use mathlib.Core.List.{List, [], ◌∷◌, ◌++◌, Memᴰ}
use Rattle.space.specs.Octets.{Octets}
use Rattle.space.specs.Fold.{folded}
use Rattle.name.specs.Answer.{answer}
use Rattle.alphabet.specs.declared.Alphabet.{Alphabet}
use Rattle.alphabet.specs.declared.Alphabet.TheVariants.{Full}
use Rattle.neighbour.specs.Nearest.{QuestionIn, InZone, InZoneOf}
use Rattle.neighbour.specs.ShortSet.{InShortSetOf}
use Rattle.neighbour.specs.Neighbour.{successor_in, predecessor_in}
use Rattle.neighbour.specs.Modified.{modified_successor_in, modified_predecessor_in}
use Rattle.encloser.specs.Wildcard.{wildcard_name}
use Rattle.covering.specs.Between.{covers_of}
use Rattle.gaps.specs.Denial.{denial_of}
use Rattle.gaps.specs.DenialGaps.{covered_by}
use Rattle.existing.specs.Existing.{Exists, IsClosest}

-- the names that a zone has: all of them lie in it, and the apex is one
pub record NamesOf (In : List ℕ → Type 0) (apex : List ℕ) (names : List (List ℕ)) : Type 0 where
  pub lie_in : (name : List ℕ) → Memᴰ name names → In name
  pub has_apex : Memᴰ (folded apex) names

-- the gaps of a whole denial deny what is missing alone
pub record DeniesMissing (apex : List ℕ) (limit : ℕ) (names : List (List ℕ)) (encloser query : List ℕ) (gaps : List (List ℕ)) : Type 0 where
  -- no name that exists is covered, empty non-terminals among them
  pub no_existing : (name : List ℕ) → Exists apex names name → covered_by gaps name ≡ false
  -- the query is, and so is the wildcard that could have answered it, where it is within the limit
  pub query_covered : covered_by gaps query ≡ true
  pub wildcard_covered : length (wildcard_name encloser) ≤ limit → covered_by gaps (wildcard_name encloser) ≡ true

-- a gap around a name that is not listed
pub record DeniesItself (In : List ℕ → Type 0) (names : List (List ℕ)) (name owner next : List ℕ) : Type 0 where
  -- none of the names is covered
  pub no_listed : (other : List ℕ) → Memᴰ other names → covers_of owner next other ≡ false
  -- of all names that could be listed the name itself is, letter case aside, and no other
  pub alone : (u : List ℕ) → In u → (covers_of owner next u ≡ true) ↔ (u ≡ folded name)

pub record OnTheSpot : Type 0 where
  -- where the encloser is the closest one and the wildcard above it does not exist, a denial denies what is missing alone
  pub denial : (apex : List ℕ) (limit : ℕ) (names : List (List ℕ)) (encloser query : List ℕ) (gaps : List (List ℕ)) → Octets apex
      → Octets encloser → Octets query → NamesOf (InZone apex limit) apex names → IsClosest apex names query encloser
      → (Exists apex names (wildcard_name encloser) → ⊥) → denial_of apex limit encloser query ≡ answer gaps
      → DeniesMissing apex limit names encloser query gaps
  -- from the absolute predecessor to the absolute successor of a name that is not listed, missing or an empty non-terminal, in a zone of
  -- either alphabet
  pub neighbours : (alphabet : Alphabet) (apex : List ℕ) (limit : ℕ) (names : List (List ℕ)) (name owner next : List ℕ)
      → QuestionIn alphabet apex limit name → NamesOf (InZoneOf alphabet apex limit) apex names → (Memᴰ (folded name) names → ⊥)
      → predecessor_in alphabet apex limit name ≡ answer owner → successor_in alphabet apex limit name ≡ answer next
      → DeniesItself (InZoneOf alphabet apex limit) names name owner next
  -- between its modified neighbours at a depth, in a zone whose names have at most so many labels more than the apex
  pub modified : (alphabet : Alphabet) (depth : ℕ) (apex : List ℕ) (limit : ℕ) (names : List (List ℕ)) (name owner next : List ℕ)
      → QuestionIn alphabet apex limit name → NamesOf (InShortSetOf alphabet depth apex limit) apex names
      → (Memᴰ (folded name) names → ⊥) → modified_predecessor_in alphabet depth apex limit name ≡ answer owner
      → modified_successor_in alphabet depth apex limit name ≡ answer next
      → DeniesItself (InShortSetOf alphabet depth apex limit) names name owner next
  -- the depth must be kept, for a name with more labels may lie between them: at depth 1 x.b.z. lies between those of b.z.
  pub too_deep : let z : List ℕ = 1 ∷ 122 ∷ 0 ∷ [] in
      let b : List ℕ = 1 ∷ 98 ∷ z in
      let owner : List ℕ = 63 ∷ 97 ∷ replicate 62 255 ++ z in
      let next : List ℕ = 2 ∷ 98 ∷ 0 ∷ z in
      (modified_predecessor_in Full 1 z 255 b ≡ answer owner) × (modified_successor_in Full 1 z 255 b ≡ answer next)
      × (covers_of owner next (1 ∷ 120 ∷ b) ≡ true)
